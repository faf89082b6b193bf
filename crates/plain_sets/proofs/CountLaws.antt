-- How many members sets have.
use Rattle.std.proofs.Common.{◌≡◌, ℕ, suc, ◌+◌, ◌-◌, ◌<◌, ◌≤◌, Bool, true, false, not, ◌&&◌, cond, ltb, leb, List, [], ◌∷◌, ◌++◌, length}
use Rattle.std.proofs.Common.{length-append, replicate, refl, sym, ap, ◌∙◌, arith, ◌⊎◌, inl, inr}
use Rattle.std.specs.List.{filter}
use Rattle.std.specs.Ordering.{nat_cmp}
use Rattle.std.specs.Cmp.{nat_cmp_total}
use Rattle.std.proofs.Math.ListN.{length-replicate}
use Rattle.std.proofs.lemmas.Bool.{lt-ltb, le-ltb, le-leb, lt-leb, cases_lt, true≢false}
use Rattle.std.proofs.lemmas.Bool.Decides.{nat_tests}
use Rattle.std.proofs.Math.Bool.{and-false}
use Rattle.std.proofs.lemmas.List.Elements.{filter_agree}
use Rattle.std.proofs.lemmas.List.Filters.{length-filter_both}
use Rattle.plain_sets.specs.Maps.{empty, retain, len, numbered, insert_all}
use Rattle.plain_sets.specs.Ranges.{is_between, outside}
use Rattle.plain_sets.specs.Numbers.{Numbers, has, with_number, with_range, without_range, within, set_of_range, IsBelow, ranges, missing}
use Rattle.plain_sets.proofs.MapLaws.{list-retain, len-empty, len-insert, empty_of_len}
use Rattle.plain_sets.proofs.SpreadLaws.{list-insert_all}
use Rattle.plain_sets.proofs.NumberLaws.{has-empty, has-retain, has-within, has-set_of_range, same_numbers}
use Rattle.plain_sets.proofs.RangeLaws.{in_ranges-ranges}

-- the members that pass a test, and those that don't
pub len-retain_both : (s : Numbers) (p q : ℕ → Bool) → ((x : ℕ) → q x ≡ not (p x)) → len (retain s p) + len (retain s q) ≡ len s
unfolding len
len-retain_both s p q other =
    (λ i. length (list-retain nat_cmp_total s p i) + length (list-retain nat_cmp_total s q i)) ∙ length-filter_both (λ e. p e.0) (λ e. q e.0)
    (λ e. other e.0) s.list

-- a range less takes its members away
pub len-without_range : (s : Numbers) (a b : ℕ) → len (without_range s a b) + len (within s a b) ≡ len s
unfolding without_range within
len-without_range s a b = let e = len-retain_both s (is_between a b) (λ x. not (is_between a b x)) (λ _. refl) in omega (arith, e)

-- a list under numbers is as long
length-numbered : {X : Type 0} (a : ℕ) (xs : List X) → length (numbered a xs) ≡ length xs
length-numbered a [] = refl
length-numbered a (x ∷ xs) = ap suc (length-numbered (suc a) xs)

-- each entry is below a, from a to a + n - 1, or above
three_parts : (a n : ℕ) (es : List (ℕ × Unit {0}))
    → length (filter (λ e. ltb e.0 a) es) + length (filter (λ e. leb a e.0 && ltb e.0 (a + n)) es) + length (filter (λ e. leb (a + n) e.0) es) ≡ length es
three_parts a n [] = refl
three_parts a n (e ∷ es) = choose (cases_lt e.0 a) (cases_lt e.0 (a + n)) (three_parts a n es) where
  choose : ((e.0 < a) ⊎ (a ≤ e.0)) → ((e.0 < a + n) ⊎ (a + n ≤ e.0))
      → length (filter (λ e. ltb e.0 a) es) + length (filter (λ e. leb a e.0 && ltb e.0 (a + n)) es) + length (filter (λ e. leb (a + n) e.0) es) ≡ length es
      → length (filter (λ e. ltb e.0 a) (e ∷ es)) + length (filter (λ e. leb a e.0 && ltb e.0 (a + n)) (e ∷ es)) + length
      (filter (λ e. leb (a + n) e.0) (e ∷ es)) ≡ suc (length es)
  choose (inl h) k rest = let m : e.0 < a + n = omega arith in rw (lt-ltb e.0 a h, lt-leb a e.0 h, lt-leb (a + n) e.0 m) (omega (arith, rest))
  choose (inr h) (inl k) rest = rw (le-ltb e.0 a h, le-leb a e.0 h, lt-ltb e.0 (a + n) k, lt-leb (a + n) e.0 k) (omega (arith, rest))
  choose (inr h) (inr k) rest = rw (le-ltb e.0 a h, le-leb a e.0 h, le-ltb e.0 (a + n) k, le-leb (a + n) e.0 k) (omega (arith, rest))

-- a range by its end and by its length
same_test : (a b n q : ℕ) → n ≡ b - a → (leb a q && ltb q b) ≡ (leb a q && ltb q (a + n))
same_test a b n q e = grind (arith, nat_tests)

-- a range adds its numbers that weren't there
pub len-with_range : (s : Numbers) (a b : ℕ) → len (with_range s a b) + len (within s a b) ≡ len s + (b - a)
unfolding len with_range within
len-with_range s a b =
    let marks : List (Unit {0}) = replicate (b - a) tt in
    let n : length marks ≡ b - a = length-replicate (b - a) tt in
    let low : List (ℕ × Unit {0}) = filter (λ e. ltb e.0 a) s.list in
    let high : List (ℕ × Unit {0}) = filter (λ e. leb (a + length marks) e.0) s.list in
    let made : length (insert_all s a marks).list ≡ length low + length marks + length high =
    ap length (list-insert_all s a marks) ∙ length-append (low ++ numbered a marks) high
    ∙ ap (λ k. k + length high) (length-append low (numbered a marks) ∙ ap (λ k. length low + k) (length-numbered a marks)) in
    let kept : length (retain s (is_between a b)).list ≡ length (filter (λ (e : ℕ × Unit {0}). leb a e.0 && ltb e.0 (a + length marks)) s.list) =
    ap length (list-retain nat_cmp_total s (is_between a b))
    ∙ ap length (filter_agree (λ e. is_between a b e.0) (λ e. leb a e.0 && ltb e.0 (a + length marks)) (λ e. same_test a b (length marks) e.0 n) s.list) in
    omega (arith, made, kept, n, three_parts a (length marks) s.list)

-- a set without members has no member
pub none_left : (s : Numbers) → ((x : ℕ) → has s x ≡ false) → len s ≡ 0
none_left s none = ap len (same_numbers s empty (λ q. none q ∙ sym (has-empty q))) ∙ len-empty nat_cmp (Unit {0})

-- a range has as many members as numbers
pub len-set_of_range : (a b : ℕ) → len (set_of_range a b) ≡ b - a
len-set_of_range a b =
    let none : len (within empty a b) ≡ 0 =
    none_left (within empty a b) (λ x. has-within empty a b x ∙ ap (λ c. is_between a b x && c) (has-empty x) ∙ and-false (is_between a b x)) in
    omega (arith, len-with_range empty a b, none, len-empty nat_cmp (Unit {0}))

-- a number more is one member more, unless it is one
pub len-with_number : (s : Numbers) (x : ℕ) → len (with_number s x) ≡ cond (has s x) (len s) (len s + 1)
len-with_number s x = len-insert nat_cmp_total s x tt

-- the numbers below a length that are no members
pub has-missing : (s : Numbers) (length q : ℕ) → has (missing s length) q ≡ (ltb q length && not (has s q))
unfolding missing
has-missing s length q =
    has-retain (set_of_range 0 length) (outside (ranges s)) q
    ∙ (λ i. not (in_ranges-ranges s q i) && has-set_of_range 0 length q i)
    ∙ other_way (not (has s q)) (ltb q length) (leb 0 q) (le-leb 0 q (omega arith)) where
      other_way : (p q z : Bool) → z ≡ true → (p && (z && q)) ≡ (q && p)
      other_way true true z e = rw e refl
      other_way true false z e = rw e refl
      other_way false true z e = refl
      other_way false false z e = refl

-- a set below a length is what it has below it
below-within : (s : Numbers) (n q : ℕ) → IsBelow s n → has s q ≡ has (retain (set_of_range 0 n) (has s)) q
below-within s n q below =
    elim (has s q) as (λ b. has s q ≡ b → b ≡ has (retain (set_of_range 0 n) (has s)) q) [
      | true ↦ λ e. let l : q < n = below q e in sym (has-retain (set_of_range 0 n) (has s) q ∙ (λ i. e i && has-set_of_range 0 n q i) ∙ is_in q n l)
      | false ↦ λ e. sym (has-retain (set_of_range 0 n) (has s) q ∙ ap (λ b. b && has (set_of_range 0 n) q) e)
    ] refl where
      is_in : (q n : ℕ) → q < n → (leb 0 q && ltb q n) ≡ true
      is_in q n l = grind (arith, nat_tests)

-- the members and the missing numbers are all numbers below the length
pub len-missing : (s : Numbers) (n : ℕ) → IsBelow s n → len s + len (missing s n) ≡ n
len-missing s n below =
    let members : len s ≡ len (retain (set_of_range 0 n) (has s)) = ap len (same_numbers s _ (λ q. below-within s n q below)) in
    let others : len (missing s n) ≡ len (retain (set_of_range 0 n) (λ x. not (has s x))) =
    ap len (same_numbers _ _ (λ q. has-missing s n q ∙ turned (ltb q n) (not (has s q)) (leb 0 q) (le-leb 0 q (omega arith))
    ∙ sym (has-retain (set_of_range 0 n) (λ x. not (has s x)) q ∙ ap (λ b. not (has s q) && b) (has-set_of_range 0 n q)))) in
    omega (arith, members, others, len-retain_both (set_of_range 0 n) (has s) (λ x. not (has s x)) (λ _. refl), len-set_of_range 0 n) where
      turned : (p q z : Bool) → z ≡ true → (p && q) ≡ (q && (z && p))
      turned true true z e = rw e refl
      turned true false z e = refl
      turned false true z e = rw e refl
      turned false false z e = refl

-- a set below a length has no more members
pub len-below : (s : Numbers) (n : ℕ) → IsBelow s n → len s ≤ n
len-below s n below = omega (arith, len-missing s n below)

-- a set below a length has as many members as the length exactly where it has all numbers below it
pub full-all : (s : Numbers) (n : ℕ) → IsBelow s n → len s ≡ n → (x : ℕ) → x < n → has s x ≡ true
full-all s n below full x h =
    let none : missing s n ≡ empty = empty_of_len (missing s n) (omega (arith, len-missing s n below)) in
    let out : (ltb x n && not (has s x)) ≡ false = sym (has-missing s n x) ∙ ap (λ t. has t x) none ∙ has-empty x in
    there (ltb x n) (has s x) (lt-ltb x n h) out where
      there : (p b : Bool) → p ≡ true → (p && not b) ≡ false → b ≡ true
      there p true e f = refl
      there p false e f = absurd (true≢false (sym (rw e refl) ∙ f))

-- and the other way round
pub all-full : (s : Numbers) (n : ℕ) → IsBelow s n → ((x : ℕ) → x < n → has s x ≡ true) → len s ≡ n
all-full s n below all =
    let none : len (missing s n) ≡ 0 = none_left (missing s n) (λ x. has-missing s n x ∙ gone x (cases_lt x n)) in
    omega (arith, len-missing s n below, none) where
      gone : (x : ℕ) → ((x < n) ⊎ (n ≤ x)) → (ltb x n && not (has s x)) ≡ false
      gone x (inl h) = rw (lt-ltb x n h, all x h) refl
      gone x (inr h) = rw (le-ltb x n h) refl
