-- The same things come in the same order, also after a map or a filter.
use Rattle.std.proofs.Common.{◌≡◌, ◌≢◌, ℕ, suc, ◌<◌, ◌≤◌, Bool, true, false, ◌&&◌, cond, eqb, List, [], ◌∷◌, length, map, refl, sym, ap, subst, ◌∙◌}
use Rattle.std.proofs.Common.{arith, ◌⊎◌, inl, inr}
use Rattle.std.specs.List.{AllByRecursion, Contains, filter, sum_by}
use Rattle.std.specs.List.Sorted.{IsPermutation}
use Rattle.std.proofs.lemmas.Bool.{cond_both, cases_Bool, eqb-true, eq-eqb, and_parts}
use Rattle.std.proofs.lemmas.List.Elements.{Contains-append_right, Contains-append_cases, Contains-push_cases}
use Rattle.std.proofs.lemmas.List.Sums.{sum_by-cons}
use Rattle.std.proofs.lemmas.List.Sorted.{IsPermutation-sym, Contains-permutation, sum_by-IsPermutation}
use Rattle.plain_sets.specs.Ordered.{is_below, placed, ordered, IsInOrder, DiffersFrom, KeysDiffer}
use Rattle.plain_sets.proofs.OrderLaws.{tied_keys, ordered-all, sorted-ordered, permutation-ordered, front, above_all}

-- nothing is in an empty list
pub none_in : {X : Type 0} (x : X) → Contains [] x → ⊥
none_in x c = let l : c.0 < 0 = c.1 in omega arith

-- the head of a list is in it
pub here : {X : Type 0} (x : X) (xs : List X) → Contains (x ∷ xs) x
here x xs = let l : 0 < suc (length xs) = omega arith in (0, l, refl)

-- what is in the tail is in the list
pub there : {X : Type 0} (x y : X) (xs : List X) → Contains xs y → Contains (x ∷ xs) y
there x y xs c = Contains-append_right (x ∷ []) xs y c

-- what is in a list is its head or in its tail
pub at_head : {X : Type 0} (x y : X) (xs : List X) → Contains (x ∷ xs) y → (x ≡ y) ⊎ Contains xs y
at_head x y xs c =
    elim (Contains-append_cases (x ∷ []) xs y c) [
      | inl one ↦ elim (Contains-push_cases [] x y one) [ inl none ↦ absurd (none_in y none) | inr e ↦ inl e ]
      | inr rest ↦ inr rest
    ]

-- what holds of all holds of each
pub all_at : {X : Type 0} (P : X → Type 0) (xs : List X) (y : X) → AllByRecursion P xs → Contains xs y → P y
all_at P [] y all c = absurd (none_in y c)
all_at P (x ∷ xs) y all c = elim (at_head x y xs c) [ inl e ↦ subst P e all.0 | inr rest ↦ all_at P xs y all.1 rest ]

-- what holds everywhere holds of all
pub everywhere : {X : Type 0} (P : X → Type 0) → ((x : X) → P x) → (xs : List X) → AllByRecursion P xs
everywhere P all [] = tt
everywhere P all (x ∷ xs) = (all x, everywhere P all xs)

-- what holds of all holds of those that pass a test
pub filter-all : {X : Type 0} (P : X → Type 0) (p : X → Bool) (xs : List X) → AllByRecursion P xs → AllByRecursion P (filter p xs)
filter-all P p [] all = tt
filter-all P p (x ∷ xs) all = cond_both (p x) _ _ (AllByRecursion P) (λ _. (all.0, filter-all P p xs all.1)) (λ _. filter-all P p xs all.1)

module _ {X : Type 0} (key : X → ℕ × ℕ) where
  -- 1 for a thing of this key, and else 0
  abbrev tie : ℕ × ℕ → X → ℕ
  tie k x = cond (eqb (key x).0 k.0 && eqb (key x).1 k.1) 1 0

  -- a thing of the key counts 1
  tied : (k : ℕ × ℕ) (x : X) → key x ≡ k → tie k x ≡ 1
  tied k x e =
      let a : eqb (key x).0 k.0 ≡ true = eq-eqb _ _ (ap (λ p. p.0) e) in let b : eqb (key x).1 k.1 ≡ true = eq-eqb _ _ (ap (λ p. p.1) e) in rw (a, b) refl

  -- another counts 0
  untied : (k : ℕ × ℕ) (x : X) → (key x ≡ k → ⊥) → tie k x ≡ 0
  untied k x ne = cond_both (eqb (key x).0 k.0 && eqb (key x).1 k.1) 1 0 (λ n. n ≡ 0)
      (λ e. let both = and_parts (eqb (key x).0 k.0) (eqb (key x).1 k.1) e in
      absurd (ne (λ i. (eqb-true (key x).0 k.0 both.0 i, eqb-true (key x).1 k.1 both.1 i))))
      (λ _. refl)

  -- where no thing has the key the count is 0
  none_tied : (k : ℕ × ℕ) (xs : List X) → AllByRecursion (λ y. k ≢ key y) xs → sum_by (tie k) xs ≡ 0
  none_tied k [] all = refl
  none_tied k (x ∷ xs) all = omega (arith, sum_by-cons (tie k) x xs, untied k x (λ e. all.0 (sym e)), none_tied k xs all.1)

  -- and the other way round
  all_untied : (k : ℕ × ℕ) (xs : List X) → sum_by (tie k) xs ≡ 0 → AllByRecursion (λ y. k ≢ key y) xs
  all_untied k [] e = tt
  all_untied k (x ∷ xs) e =
      (λ is. absurd (omega (arith, e, sum_by-cons (tie k) x xs, tied k x (sym is))), all_untied k xs (omega (arith, e, sum_by-cons (tie k) x xs)))

  -- with a thing more whose key is new, each key counts at most 1
  at_most_one : (k : ℕ × ℕ) (x : X) (xs : List X) → DiffersFrom key x xs → sum_by (tie k) xs ≤ 1 → sum_by (tie k) (x ∷ xs) ≤ 1
  at_most_one k x xs differ rest = choose (cases_Bool (eqb (key x).0 k.0 && eqb (key x).1 k.1)) where
    choose : ((eqb (key x).0 k.0 && eqb (key x).1 k.1) ≡ true) ⊎ ((eqb (key x).0 k.0 && eqb (key x).1 k.1) ≡ false) → sum_by (tie k) (x ∷ xs) ≤ 1
    choose (inl e) =
        let both = and_parts (eqb (key x).0 k.0) (eqb (key x).1 k.1) e in
        let is : key x ≡ k = λ i. (eqb-true (key x).0 k.0 both.0 i, eqb-true (key x).1 k.1 both.1 i) in
        omega (arith, sum_by-cons (tie k) x xs, tied k x is, none_tied k xs (subst (λ j. AllByRecursion (λ y. j ≢ key y) xs) is differ))
    choose (inr e) = let z : tie k x ≡ 0 = rw e refl in omega (arith, sum_by-cons (tie k) x xs, z, rest)

  -- where keys differ, each counts at most 1
  few-differ : (xs : List X) → KeysDiffer key xs → (k : ℕ × ℕ) → sum_by (tie k) xs ≤ 1
  few-differ [] differ k = omega arith
  few-differ (x ∷ xs) differ k = at_most_one k x xs differ.0 (few-differ xs differ.1 k)

  -- and the other way round
  differ-few : (xs : List X) → ((k : ℕ × ℕ) → sum_by (tie k) xs ≤ 1) → KeysDiffer key xs
  differ-few [] few = tt
  differ-few (x ∷ xs) few = (
    all_untied (key x) xs (omega (arith, few (key x), sum_by-cons (tie (key x)) x xs, tied (key x) x refl)),
    differ-few xs (λ k. omega (arith, few k, sum_by-cons (tie k) x xs)),
  )

  -- keys that differ do so in each order of the things
  pub differ-permuted : (xs ys : List X) → IsPermutation xs ys → KeysDiffer key xs → KeysDiffer key ys
  differ-permuted xs ys same differ = differ-few ys (λ k. omega (arith, few-differ xs differ k, sum_by-IsPermutation (tie k) xs ys same))

  -- two lists in order with the same things begin alike
  heads : (x y : X) (xs ys : List X) → IsInOrder key (x ∷ xs) → IsInOrder key (y ∷ ys) → KeysDiffer key (y ∷ ys)
      → Contains (y ∷ ys) x → Contains (x ∷ xs) y → x ≡ y
  heads x y xs ys up up' differ c d =
      elim (at_head y x ys c) [
        | inl e ↦ sym e
        | inr later ↦ elim (at_head x y xs d) [
          | inl e ↦ e
          | inr later' ↦ absurd (all_at (λ z. key y ≢ key z) ys x differ.0 later
              (tied_keys (key y) (key x) (all_at (λ z. is_below (key z) (key x) ≡ false) xs y up.0 later')
              (all_at (λ z. is_below (key z) (key y) ≡ false) ys x up'.0 later)))
        ]
      ]

  -- and go on with the same things
  rest_in : (x y z : X) (xs ys : List X) → x ≡ y → DiffersFrom key x xs → Contains xs z → Contains (y ∷ ys) z → Contains ys z
  rest_in x y z xs ys e differ c d = elim (at_head y z ys d) [ inl f ↦ absurd (all_at (λ w. key x ≢ key w) xs z differ c (ap key (e ∙ f))) | inr later ↦ later ]

  -- two lists in order with the same things, whose keys differ, are one
  pub same_in_order : (xs ys : List X) → IsInOrder key xs → IsInOrder key ys → KeysDiffer key xs → KeysDiffer key ys
      → ((z : X) → Contains xs z → Contains ys z) → ((z : X) → Contains ys z → Contains xs z) → xs ≡ ys
  same_in_order [] [] up up' differ differ' to from = refl
  same_in_order [] (y ∷ ys) up up' differ differ' to from = absurd (none_in y (from y (here y ys)))
  same_in_order (x ∷ xs) [] up up' differ differ' to from = absurd (none_in x (to x (here x xs)))
  same_in_order (x ∷ xs) (y ∷ ys) up up' differ differ' to from =
      let e : x ≡ y = heads x y xs ys up up' differ' (to x (here x xs)) (from y (here y ys)) in
      let rest : xs ≡ ys = same_in_order xs ys up.1 up'.1 differ.1 differ'.1
      (λ z c. rest_in x y z xs ys e differ.0 c (to z (there x z xs c)))
      (λ z c. rest_in y x z ys xs (sym e) differ'.0 c (from z (there y z ys c))) in
      λ i. e i ∷ rest i

  -- the order in which things come doesn't matter where their keys differ
  pub ordered-same : (xs ys : List X) → KeysDiffer key xs → KeysDiffer key ys → ((z : X) → Contains xs z → Contains ys z)
      → ((z : X) → Contains ys z → Contains xs z)
      → ordered key xs ≡ ordered key ys
  ordered-same xs ys differ differ' to from =
      same_in_order (ordered key xs) (ordered key ys) (sorted-ordered key xs) (sorted-ordered key ys)
      (differ-permuted xs (ordered key xs) (permutation-ordered key xs) differ) (differ-permuted ys (ordered key ys) (permutation-ordered key ys) differ')
      (λ z c. Contains-permutation ys (ordered key ys) z (permutation-ordered key ys)
      (to z (Contains-permutation (ordered key xs) xs z (IsPermutation-sym xs (ordered key xs) (permutation-ordered key xs)) c)))
      (λ z c. Contains-permutation xs (ordered key xs) z (permutation-ordered key xs)
      (from z (Contains-permutation (ordered key ys) ys z (IsPermutation-sym ys (ordered key ys) (permutation-ordered key ys)) c)))

  -- nor does it matter of a permutation
  pub ordered-permuted : (xs ys : List X) → IsPermutation xs ys → KeysDiffer key xs → ordered key xs ≡ ordered key ys
  ordered-permuted xs ys same differ = ordered-same xs ys differ (differ-permuted xs ys same differ) (λ z. Contains-permutation xs ys z same)
      (λ z. Contains-permutation ys xs z (IsPermutation-sym xs ys same))

  -- a list in order whose keys differ stays as it is
  pub ordered-sorted : (xs : List X) → IsInOrder key xs → KeysDiffer key xs → ordered key xs ≡ xs
  ordered-sorted xs up differ =
      same_in_order (ordered key xs) xs (sorted-ordered key xs) up (differ-permuted xs (ordered key xs) (permutation-ordered key xs) differ) differ
      (λ z. Contains-permutation (ordered key xs) xs z (IsPermutation-sym xs (ordered key xs) (permutation-ordered key xs)))
      (λ z. Contains-permutation xs (ordered key xs) z (permutation-ordered key xs))

  -- a thing that isn't below the next, with the next kept or not
  kept_step : (x y : X) (hs : List X) (px py : Bool) → is_below (key x) (key y) ≡ false
      → cond py (y ∷ cond px (placed key x hs) hs) (cond px (placed key x hs) hs) ≡ cond px (placed key x (cond py (y ∷ hs) hs)) (cond py (y ∷ hs) hs)
  kept_step x y hs true true e = rw e refl
  kept_step x y hs true false e = refl
  kept_step x y hs false true e = refl
  kept_step x y hs false false e = refl

  -- what passes a test, of things in order with one more in its place
  placed-kept : (p : X → Bool) (x : X) (ys : List X) → IsInOrder key ys → filter p (placed key x ys) ≡ cond (p x) (placed key x (filter p ys)) (filter p ys)
  placed-kept p x [] up = refl
  placed-kept p x (y ∷ ys) up =
      elim (is_below (key x) (key y)) as
      (λ b. is_below (key x) (key y) ≡ b → filter p (cond b (x ∷ y ∷ ys) (y ∷ placed key x ys)) ≡ cond (p x) (placed key x (filter p (y ∷ ys)))
      (filter p (y ∷ ys))) [
        | true ↦ λ e. ap (λ l. cond (p x) l (filter p (y ∷ ys)))
            (sym (front key x (filter p (y ∷ ys)) (filter-all (λ z. is_below (key x) (key z) ≡ true) p (y ∷ ys) (e, above_all key x y ys e up.0))))
        | false ↦ λ e. ap (λ l. cond (p y) (y ∷ l) l) (placed-kept p x ys up.1) ∙ kept_step x y (filter p ys) (p x) (p y) e
      ] refl

  -- of the things that pass a test, those in order are those of all that pass
  pub ordered-filter : (p : X → Bool) (xs : List X) → ordered key (filter p xs) ≡ filter p (ordered key xs)
  unfolding ordered
  ordered-filter p [] = refl
  ordered-filter p (x ∷ xs) =
      elim (p x) as (λ b. ordered key (cond b (x ∷ filter p xs) (filter p xs)) ≡ cond b (placed key x (filter p (ordered key xs)))
      (filter p (ordered key xs))) [
        | true ↦ ap (placed key x) (ordered-filter p xs)
        | false ↦ ordered-filter p xs
      ] ∙ sym (placed-kept p x (ordered key xs) (sorted-ordered key xs))

-- of the keys the order sees only which is below which
module _ {X Y : Type 0} (key : X → ℕ × ℕ) (key' : Y → ℕ × ℕ) (f : X → Y) (P : X → Type 0)
    (agree : (x y : X) → P x → P y → is_below (key' (f x)) (key' (f y)) ≡ is_below (key x) (key y)) where
  -- a map of a choice
  map-cond : (b : Bool) (xs ys : List X) → cond b (map f xs) (map f ys) ≡ map f (cond b xs ys)
  map-cond true xs ys = refl
  map-cond false xs ys = refl

  -- a mapped thing among mapped things
  placed-map : (x : X) (ys : List X) → P x → AllByRecursion P ys → placed key' (f x) (map f ys) ≡ map f (placed key x ys)
  placed-map x [] p all = refl
  placed-map x (y ∷ ys) p all = rw (agree x y p all.0, placed-map x ys p all.1) (map-cond (is_below (key x) (key y)) (x ∷ y ∷ ys) (y ∷ placed key x ys))

  -- a map that keeps which is below which keeps the order
  pub ordered-map : (xs : List X) → AllByRecursion P xs → ordered key' (map f xs) ≡ map f (ordered key xs)
  unfolding ordered
  ordered-map [] all = refl
  ordered-map (x ∷ xs) all = ap (placed key' (f x)) (ordered-map xs all.1) ∙ placed-map x (ordered key xs) all.0 (ordered-all key P xs all.1)

-- a map that keeps the keys keeps the order
pub ordered-map_same : {X Y : Type 0} (key : X → ℕ × ℕ) (key' : Y → ℕ × ℕ) (f : X → Y) → ((x : X) → key' (f x) ≡ key x) → (xs : List X)
    → ordered key' (map f xs) ≡ map f (ordered key xs)
ordered-map_same key key' f same xs =
    ordered-map key key' f (λ _. Unit {0}) (λ x y p q i. is_below (same x i) (same y i)) xs (everywhere (λ _. Unit {0}) (λ _. tt) xs)
