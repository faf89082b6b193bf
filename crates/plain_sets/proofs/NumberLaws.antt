-- Which numbers a set has after each change.
use Rattle.std.proofs.Common.{◌≡◌, ℕ, ◌+◌, ◌-◌, ◌<◌, ◌≤◌, Bool, true, false, not, ◌&&◌, ◌||◌, cond, ltb, leb, eqb, List, [], ◌∷◌, length, replicate}
use Rattle.std.proofs.Common.{refl, sym, ap, ◌∙◌, arith, Option, Some, None, ◌⊎◌, inl, inr}
use Rattle.std.specs.Option.{is_some}
use Rattle.std.specs.List.{list_any, slice_get}
use Rattle.std.specs.Ordering.{nat_cmp, eq_by_cmp}
use Rattle.std.specs.Cmp.{nat_cmp_total, unsigned_tied}
use Rattle.std.specs.FinMap.{nat_cmp-IsAntisymmetric}
use Rattle.std.proofs.Math.ListN.{length-replicate}
use Rattle.std.proofs.lemmas.Bool.{lt-ltb, le-ltb, le-leb, lt-leb, cases_lt}
use Rattle.std.proofs.Math.Bool.{or_assoc, or-false}
use Rattle.std.proofs.lemmas.Bool.Decides.{nat_tests}
use Rattle.plain_sets.specs.Maps.{empty, get, retain}
use Rattle.plain_sets.specs.Ranges.{is_between}
use Rattle.plain_sets.specs.Numbers.{Numbers, has, with_number, without_number, with_range, without_range, within, set_of_range, with_all}
use Rattle.plain_sets.proofs.MapLaws.{get-empty, get-insert, get-retain, get-remove, same_map}
use Rattle.plain_sets.proofs.SpreadLaws.{get-insert_all, is_some-slice_get}

-- whether there is a value after a choice of one
some_or : {A : Type 0} (b : Bool) (x : A) (o : Option A) → is_some (cond b (Some x) o) ≡ (b || is_some o)
some_or true x o = refl
some_or false x o = refl

-- whether there is one after a choice of none
none_or : {A : Type 0} (b : Bool) (o : Option A) → is_some (cond b None o) ≡ (not b && is_some o)
none_or true o = refl
none_or false o = refl

-- whether there is one that may be kept
kept_or : {A : Type 0} (b : Bool) (o : Option A) → is_some (cond b o None) ≡ (b && is_some o)
kept_or true o = refl
kept_or false o = refl

-- the empty set has no member
pub has-empty : (q : ℕ) → has empty q ≡ false
has-empty q = ap is_some (get-empty nat_cmp q)

-- a number more
pub has-with_number : (s : Numbers) (x q : ℕ) → has (with_number s x) q ≡ (eqb q x || has s q)
has-with_number s x q =
    ap is_some (get-insert nat_cmp_total s x tt q) ∙ some_or (eq_by_cmp nat_cmp q x) tt (get s q) ∙ ap (λ b. b || has s q) (unsigned_tied q x)

-- a number less
pub has-without_number : (s : Numbers) (x q : ℕ) → has (without_number s x) q ≡ (not (eqb q x) && has s q)
has-without_number s x q =
    ap is_some (get-remove nat_cmp_total s x q) ∙ none_or (eq_by_cmp nat_cmp q x) (get s q) ∙ ap (λ b. not b && has s q) (unsigned_tied q x)

-- the members that pass a test
pub has-retain : (s : Numbers) (p : ℕ → Bool) (q : ℕ) → has (retain s p) q ≡ (p q && has s q)
has-retain s p q = ap is_some (get-retain nat_cmp_total s p q (λ x t. ap p (sym (nat_cmp-IsAntisymmetric q x t)))) ∙ kept_or (p q) (get s q)

-- whether there is a value after a list of marks was put
range_step : (a b q : ℕ) (o : Option (Unit {0})) → is_some o ≡ ltb (q - a) (b - a) → (g : Option (Unit {0}))
    → is_some (cond (leb a q && ltb q (a + (b - a))) o g) ≡ ((leb a q && ltb q b) || is_some g)
range_step a b q o e g = choose (cases_lt q a) (cases_lt q b) where
  choose : ((q < a) ⊎ (a ≤ q)) → ((q < b) ⊎ (b ≤ q)) → is_some (cond (leb a q && ltb q (a + (b - a))) o g) ≡ ((leb a q && ltb q b) || is_some g)
  choose (inl h) k = rw (lt-leb a q h) refl
  choose (inr h) (inl k) =
      let near : q < a + (b - a) = omega arith in rw (le-leb a q h, lt-ltb q (a + (b - a)) near, lt-ltb q b k) (e ∙ lt-ltb (q - a) (b - a) (omega arith))
  choose (inr h) (inr k) = let far : a + (b - a) ≤ q = omega arith in rw (le-leb a q h, le-ltb q (a + (b - a)) far, le-ltb q b k) refl

-- a range more
pub has-with_range : (s : Numbers) (a b q : ℕ) → has (with_range s a b) q ≡ (is_between a b q || has s q)
unfolding with_range
has-with_range s a b q =
    let marks : List (Unit {0}) = replicate (b - a) tt in
    let n : length marks ≡ b - a = length-replicate (b - a) tt in
    ap is_some (get-insert_all s a marks q)
    ∙ ap (λ l. is_some (cond (leb a q && ltb q (a + l)) (slice_get marks (q - a)) (get s q))) n
    ∙ range_step a b q (slice_get marks (q - a)) (is_some-slice_get marks (q - a) ∙ ap (λ l. ltb (q - a) l) n) (get s q)

-- a range less
pub has-without_range : (s : Numbers) (a b q : ℕ) → has (without_range s a b) q ≡ (not (is_between a b q) && has s q)
unfolding without_range
has-without_range s a b q = has-retain s (λ x. not (is_between a b x)) q

-- the members in a range
pub has-within : (s : Numbers) (a b q : ℕ) → has (within s a b) q ≡ (is_between a b q && has s q)
unfolding within
has-within s a b q = has-retain s (is_between a b) q

-- the members of a range
pub has-set_of_range : (a b q : ℕ) → has (set_of_range a b) q ≡ is_between a b q
has-set_of_range a b q = has-with_range empty a b q ∙ ap (λ c. is_between a b q || c) (has-empty q) ∙ or-false (is_between a b q)

-- a list of numbers more
pub has-with_all : (xs : List ℕ) (s : Numbers) (q : ℕ) → has (with_all xs s) q ≡ (list_any (eqb q) xs || has s q)
has-with_all [] s q = refl
has-with_all (x ∷ xs) s q =
    has-with_number (with_all xs s) x q ∙ ap (λ b. eqb q x || b) (has-with_all xs s q) ∙ sym (or_assoc (eqb q x) (list_any (eqb q) xs) (has s q))

-- two sets with the same numbers are one
same_some : (o p : Option (Unit {0})) → is_some o ≡ is_some p → o ≡ p
same_some None None e = refl
same_some None (Some u) e = cc
same_some (Some u) None e = cc
same_some (Some u) (Some v) e = refl

-- two sets with the same members are one
pub same_numbers : (s t : Numbers) → ((q : ℕ) → has s q ≡ has t q) → s ≡ t
same_numbers s t same = same_map nat_cmp_total nat_cmp-IsAntisymmetric s t (λ q. same_some _ _ (same q))

-- a number past a range isn't in it
pub beyond : (a b q : ℕ) → b ≤ q → is_between a b q ≡ false
beyond a b q h = grind (arith, nat_tests)

-- nor is any in an empty range
pub no_number : (a b q : ℕ) → b ≤ a → is_between a b q ≡ false
no_number a b q h = grind (arith, nat_tests)

-- changes that change nothing, and ranges that follow each other
pub with_range-nothing : (s : Numbers) (a b : ℕ) → b ≤ a → with_range s a b ≡ s
with_range-nothing s a b h = same_numbers _ _ (λ q. has-with_range s a b q ∙ ap (λ c. c || has s q) (no_number a b q h))

-- an empty range takes nothing away
pub without_range-nothing : (s : Numbers) (a b : ℕ) → b ≤ a → without_range s a b ≡ s
without_range-nothing s a b h = same_numbers _ _ (λ q. has-without_range s a b q ∙ ap (λ c. not c && has s q) (no_number a b q h))

-- two ranges that follow each other are one
pub with_range-again : (s : Numbers) (a b c : ℕ) → a ≤ b → b ≤ c → with_range (with_range s a b) b c ≡ with_range s a c
with_range-again s a b c ab bc = same_numbers _ _ (λ q.
    has-with_range (with_range s a b) b c q ∙ ap (λ p. is_between b c q || p) (has-with_range s a b q)
    ∙ sym (or_assoc (is_between b c q) (is_between a b q) (has s q)) ∙ ap (λ p. p || has s q) (two_ranges a b c q ab bc) ∙ sym (has-with_range s a c q)) where
      two_ranges : (a b c q : ℕ) → a ≤ b → b ≤ c → ((leb b q && ltb q c) || (leb a q && ltb q b)) ≡ (leb a q && ltb q c)
      two_ranges a b c q ab bc = grind (arith, nat_tests)
