-- A map in which the numbers from one on have the values of a list.
use Rattle.std.proofs.Common.{◌≡◌, ℕ, zero, suc, ◌+◌, ◌-◌, ◌<◌, ◌≤◌, Bool, true, false, ◌&&◌, cond, ltb, leb, eqb, T, List, [], ◌∷◌, ◌++◌, length}
use Rattle.std.proofs.Common.{refl, sym, ap, subst, ◌∙◌, arith, Option, Some, None, ◌⊎◌, inl, inr}
use Rattle.std.specs.Option.{is_some}
use Rattle.std.specs.List.{AllByRecursion, filter, slice_get}
use Rattle.std.specs.Ordering.{nat_cmp, eq_by_cmp, is_lt}
use Rattle.std.specs.Cmp.{nat_cmp_total, unsigned_tied}
use Rattle.std.specs.FinMap.{nat_cmp-IsAntisymmetric}
use Rattle.std.proofs.lemmas.Bool.{cond_both, ltb-true, leb-true, lt-ltb, le-leb, lt-leb, le-ltb, eq-eqb, ne_eqb, cases_order, cases_lt}
use Rattle.std.proofs.lemmas.Bool.Decides.{nat_tests}
use Rattle.core.specs.FinMap.Entries.{find, is_sorted-where_key, find-where_key}
use Rattle.plain_sets.specs.Maps.{Map, rises, rises_above, get, insert_all, numbered}
use Rattle.plain_sets.proofs.Small.{passes, both, first, second, is_true}
use Rattle.plain_sets.proofs.MapLaws.{list_if_rises, rises-sorted, sorted-rises}

-- the order of numbers, as a test
lt_test : (x y : ℕ) → is_lt (nat_cmp x y) ≡ ltb x y
lt_test x y = grind (arith, nat_tests)

-- a lesser number passes it
lt_holds : (x y : ℕ) → x < y → T (is_lt (nat_cmp x y))
lt_holds x y h = subst T (sym (lt_test x y ∙ lt-ltb x y h)) tt

-- what passes it is less
pub lt_if_less : (x y : ℕ) → T (is_lt (nat_cmp x y)) → x < y
lt_if_less x y h = ltb-true x y (sym (lt_test x y) ∙ is_true _ h)

-- a look-up in two lists, one entry later
past : {A : Type 0} (b : Bool) (x : A) (o p : Option A) → cond b (Some x) (cond (is_some o) o p) ≡ cond (is_some (cond b (Some x) o)) (cond b (Some x) o) p
past true x o p = refl
past false x o p = refl

-- a number and a bound, each one more
next_test : (i n : ℕ) → ltb i n ≡ ltb (suc i) (suc n)
next_test i n = grind (arith, nat_tests)

-- nothing is found in two empty places
settled : {A : Type 0} (g : Option A) → cond (is_some (cond (is_some g) g None)) (cond (is_some g) g None) None ≡ g
settled None = refl
settled (Some x) = refl

module _ {X : Type 0} where
  -- all keys are below b
  abbrev Under : ℕ → List (ℕ × X) → Type 0
  Under b es = AllByRecursion (λ e. e.0 < b) es

  -- all keys are b or above
  abbrev Over : ℕ → List (ℕ × X) → Type 0
  Over b es = AllByRecursion (λ e. b ≤ e.0) es

  -- keys from b on rise from above a lesser k
  above-over : (k b : ℕ) (fs : List (ℕ × X)) → k < b → T (rises nat_cmp fs) → Over b fs → T (rises_above nat_cmp k fs)
  above-over k b [] h rise over = tt
  above-over k b (f ∷ fs) h rise over = both _ _ (lt_holds k f.0 (omega (arith, over.0))) rise

  -- rising keys below b, and then from b on, rise from above k
  above-append : (k b : ℕ) (es fs : List (ℕ × X)) → k < b → T (rises_above nat_cmp k es) → Under b es → T (rises nat_cmp fs) → Over b fs
      → T (rises_above nat_cmp k (es ++ fs))
  above-append k b [] fs h up under rise over = above-over k b fs h rise over
  above-append k b (e ∷ es) fs h up under rise over = both _ _ (first _ _ up) (above-append e.0 b es fs under.0 (second _ _ up) under.1 rise over)

  -- rising keys below b, and then from b on, rise
  rises-append : (b : ℕ) (es fs : List (ℕ × X)) → T (rises nat_cmp es) → Under b es → T (rises nat_cmp fs) → Over b fs → T (rises nat_cmp (es ++ fs))
  rises-append b [] fs up under rise over = rise
  rises-append b (e ∷ es) fs up under rise over = above-append e.0 b es fs under.0 up under.1 rise over

  -- two lists from b on
  over-append : (b : ℕ) (es fs : List (ℕ × X)) → Over b es → Over b fs → Over b (es ++ fs)
  over-append b [] fs p q = q
  over-append b (e ∷ es) fs p q = (p.0, over-append b es fs p.1 q)

  -- what is from b on is from a lesser number on
  over-lower : (a b : ℕ) (es : List (ℕ × X)) → a ≤ b → Over b es → Over a es
  over-lower a b [] h all = tt
  over-lower a b (e ∷ es) h all = (omega (arith, all.0), over-lower a b es h all.1)

  -- two lists below b
  under-append : (b : ℕ) (es fs : List (ℕ × X)) → Under b es → Under b fs → Under b (es ++ fs)
  under-append b [] fs p q = q
  under-append b (e ∷ es) fs p q = (p.0, under-append b es fs p.1 q)

  -- what is below a is below a greater number
  under-higher : (a b : ℕ) (es : List (ℕ × X)) → a ≤ b → Under a es → Under b es
  under-higher a b [] h all = tt
  under-higher a b (e ∷ es) h all = (omega (arith, all.0), under-higher a b es h all.1)

  -- the numbers of a list begin at a
  over-numbered : (a : ℕ) (xs : List X) → Over a (numbered a xs)
  over-numbered a [] = tt
  over-numbered a (x ∷ xs) = (omega arith, over-lower a (suc a) (numbered (suc a) xs) (omega arith) (over-numbered (suc a) xs))

  -- and end where it ends
  under-numbered : (a : ℕ) (xs : List X) → Under (a + length xs) (numbered a xs)
  under-numbered a [] = tt
  under-numbered a (x ∷ xs) =
      (omega arith, under-higher (suc a + length xs) (a + suc (length xs)) (numbered (suc a) xs) (omega arith) (under-numbered (suc a) xs))

  -- they rise
  rises-numbered : (a : ℕ) (xs : List X) → T (rises nat_cmp (numbered a xs))
  rises-numbered a [] = tt
  rises-numbered a (x ∷ xs) = above-over a (suc a) (numbered (suc a) xs) (omega arith) (rises-numbered (suc a) xs) (over-numbered (suc a) xs)

  -- a filter leaves keys rising
  rises-filter : (p : ℕ → Bool) (es : List (ℕ × X)) → T (rises nat_cmp es) → T (rises nat_cmp (filter (λ e. p e.0) es))
  rises-filter p es h = rises-sorted nat_cmp (filter (λ e. p e.0) es) (is_sorted-where_key nat_cmp p es (sorted-rises nat_cmp nat_cmp_total es h))

  -- the entries of insert_all
  pub list-insert_all : (m : Map nat_cmp X) (a : ℕ) (xs : List X)
      → (insert_all m a xs).list ≡ filter (λ e. ltb e.0 a) m.list ++ numbered a xs ++ filter (λ e. leb (a + length xs) e.0) m.list
  unfolding insert_all
  list-insert_all m a xs = list_if_rises _ m
      (rises-append (a + length xs) (filter (λ e. ltb e.0 a) m.list ++ numbered a xs) (filter (λ e. leb (a + length xs) e.0) m.list)
      (rises-append a (filter (λ e. ltb e.0 a) m.list) (numbered a xs) (rises-filter (λ k. ltb k a) m.list m.sorted)
      (passes (λ e. e.0 < a) (λ e. ltb e.0 a) (λ e h. ltb-true _ _ h) m.list) (rises-numbered a xs) (over-numbered a xs))
      (under-append (a + length xs) (filter (λ e. ltb e.0 a) m.list) (numbered a xs)
      (under-higher a (a + length xs) _ (omega arith) (passes (λ e. e.0 < a) (λ e. ltb e.0 a) (λ e h. ltb-true _ _ h) m.list)) (under-numbered a xs))
      (rises-filter (λ k. leb (a + length xs) k) m.list m.sorted)
      (passes (λ e. a + length xs ≤ e.0) (λ e. leb (a + length xs) e.0) (λ e h. leb-true _ _ h) m.list))

  -- what is found in two lists
  find-append : (q : ℕ) (es fs : List (ℕ × X)) → find nat_cmp q (es ++ fs) ≡ cond (is_some (find nat_cmp q es)) (find nat_cmp q es) (find nat_cmp q fs)
  find-append q [] fs = refl
  find-append q (e ∷ es) fs =
      ap (cond (eq_by_cmp nat_cmp q e.0) (Some e.1)) (find-append q es fs) ∙ past (eq_by_cmp nat_cmp q e.0) e.1 (find nat_cmp q es) (find nat_cmp q fs)

  -- what is found after a filter of the keys
  find-filter : (p : ℕ → Bool) (q : ℕ) (es : List (ℕ × X)) → find nat_cmp q (filter (λ e. p e.0) es) ≡ cond (p q) (find nat_cmp q es) None
  find-filter p q es = find-where_key nat_cmp p q (λ x t. ap p (sym (nat_cmp-IsAntisymmetric q x t))) es

  -- what is found under numbers, one later
  numbered_step : (a q : ℕ) (x : X) (xs : List X) → (q ≡ a) ⊎ ((q < a) ⊎ (a < q))
      → cond (eqb q a) (Some x) (cond (leb (suc a) q) (slice_get xs (q - suc a)) None) ≡ cond (leb a q) (slice_get (x ∷ xs) (q - a)) None
  numbered_step a q x xs (inl e) = let z : q - a ≡ 0 = omega arith in let l : a ≤ q = omega arith in rw (eq-eqb q a e, le-leb a q l, z) refl
  numbered_step a q x xs (inr (inl h)) =
      let n : q ≡ a → ⊥ = omega arith in
      let l : q < suc a = omega arith in
      rw (ne_eqb q a n, lt-leb (suc a) q l, lt-leb a q h) refl
  numbered_step a q x xs (inr (inr h)) =
      let n : q ≡ a → ⊥ = omega arith in
      let l : suc a ≤ q = omega arith in
      let m : a ≤ q = omega arith in
      let e : q - a ≡ suc (q - suc a) = omega arith in
      rw (ne_eqb q a n, le-leb (suc a) q l, le-leb a q m, e) refl

  -- what the entries of a list under numbers answer
  pub find-numbered : (a q : ℕ) (xs : List X) → find nat_cmp q (numbered a xs) ≡ cond (leb a q) (slice_get xs (q - a)) None
  find-numbered a q [] = let none : Option X = None in cond_both (leb a q) none none (λ o. none ≡ o) (λ _. refl) (λ _. refl)
  find-numbered a q (x ∷ xs) =
      ap (λ b. cond b (Some x) (find nat_cmp q (numbered (suc a) xs))) (unsigned_tied q a)
      ∙ ap (cond (eqb q a) (Some x)) (find-numbered (suc a) q xs)
      ∙ numbered_step a q x xs (cases_order q a)

  -- an index has an element where it is below the length
  pub is_some-slice_get : (xs : List X) (i : ℕ) → is_some (slice_get xs i) ≡ ltb i (length xs)
  is_some-slice_get [] i = sym (le-ltb i 0 (omega arith))
  is_some-slice_get (x ∷ xs) zero = sym (lt-ltb 0 (suc (length xs)) (omega arith))
  is_some-slice_get (x ∷ xs) (suc i) = is_some-slice_get xs i ∙ next_test i (length xs)

  -- what is found below a, from a on, and behind
  spread_step : (a n q : ℕ) (o g : Option X) → is_some o ≡ ltb (q - a) n → ((q < a) ⊎ (a ≤ q)) → ((q < a + n) ⊎ (a + n ≤ q))
      → cond (is_some (cond (is_some (cond (ltb q a) g None)) (cond (ltb q a) g None) (cond (leb a q) o None)))
      (cond (is_some (cond (ltb q a) g None)) (cond (ltb q a) g None) (cond (leb a q) o None))
      (cond (leb (a + n) q) g None) ≡ cond (leb a q && ltb q (a + n)) o g
  spread_step a n q o g e (inl h) k = let above : q < a + n = omega arith in rw (lt-ltb q a h, lt-leb a q h, lt-leb (a + n) q above) (settled g)
  spread_step a n q o g e (inr h) (inl k) =
      let inside : is_some o ≡ true = e ∙ lt-ltb (q - a) n (omega arith) in
      rw (le-ltb q a h, le-leb a q h, lt-ltb q (a + n) k, inside) refl
  spread_step a n q o g e (inr h) (inr k) =
      let outside : is_some o ≡ false = e ∙ le-ltb (q - a) n (omega arith) in
      rw (le-ltb q a h, le-leb a q h, le-ltb q (a + n) k, le-leb (a + n) q k, outside) refl

  -- what a look-up answers after a list was put
  pub get-insert_all : (m : Map nat_cmp X) (a : ℕ) (xs : List X) (q : ℕ)
      → get (insert_all m a xs) q ≡ cond (leb a q && ltb q (a + length xs)) (slice_get xs (q - a)) (get m q)
  unfolding get
  get-insert_all m a xs q =
      ap (find nat_cmp q) (list-insert_all m a xs)
      ∙ find-append q (filter (λ e. ltb e.0 a) m.list ++ numbered a xs) (filter (λ e. leb (a + length xs) e.0) m.list)
      ∙ ap (λ o. cond (is_some o) o (find nat_cmp q (filter (λ e. leb (a + length xs) e.0) m.list)))
      (find-append q (filter (λ e. ltb e.0 a) m.list) (numbered a xs))
      ∙ rw (find-filter (λ k. ltb k a) q m.list, find-numbered a q xs, find-filter (λ k. leb (a + length xs) k) q m.list)
      (spread_step a (length xs) q (slice_get xs (q - a)) (find nat_cmp q m.list) (is_some-slice_get xs (q - a)) (cases_lt q a) (cases_lt q (a + length xs)))
