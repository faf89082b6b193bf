-- Subsets, widths of ranges, and gaps.
use Rattle.std.proofs.Common.{◌≡◌, ℕ, ◌+◌, ◌-◌, ◌<◌, ◌≤◌, Bool, true, false, not, ◌&&◌, ◌||◌, ltb, leb, eqb, List, [], ◌∷◌, length, refl, sym, ap}
use Rattle.std.proofs.Common.{◌∙◌, arith, ◌⊎◌, inl, inr}
use Rattle.std.specs.List.{list_any, list_all}
use Rattle.std.specs.Ordering.{nat_cmp}
use Rattle.std.proofs.Math.Bool.{or-false, and-false}
use Rattle.std.proofs.lemmas.Bool.{or_left, or_right, le-leb, cases_lt, true≢false, eqb-true, eq-eqb}
use Rattle.plain_sets.specs.Maps.{empty, retain, len, keys}
use Rattle.plain_sets.specs.Ranges.{Range, is_between, in_ranges, AreApart, width_of}
use Rattle.plain_sets.specs.Numbers.{Numbers, has, with_range, without_range, within, set_of_range, union, IsSubset, is_subset, ranges, set_of_ranges}
use Rattle.plain_sets.specs.Numbers.{missing, gaps}
use Rattle.plain_sets.proofs.MapLaws.{len-empty}
use Rattle.plain_sets.proofs.NumberLaws.{has-empty, has-retain, has-with_range, has-without_range, has-within, has-with_all, has-set_of_range}
use Rattle.plain_sets.proofs.NumberLaws.{same_numbers, beyond, no_number}
use Rattle.plain_sets.proofs.RangeLaws.{apart-ranges, below_ranges, has-keys, has-set_of_ranges, set_of_ranges-ranges, ranges_are}
use Rattle.plain_sets.proofs.RangeChanges.{ranges-one_less}
use Rattle.plain_sets.proofs.CountLaws.{len-retain_both, len-with_range, len-set_of_range, has-missing, none_left}

-- the members of a union
pub has-union : (s t : Numbers) (q : ℕ) → has (union s t) q ≡ (has s q || has t q)
has-union s t q = has-with_all (keys s) t q ∙ ap (λ b. b || has t q) (sym (has-keys s q))

-- a subset has at most as many members
pub len-subset : (s t : Numbers) → IsSubset s t → len s ≤ len t
len-subset s t sub =
    let is : len s ≡ len (retain t (has s)) = ap len (same_numbers s _ (λ q. meet (has s q) (has t q) (sub q) ∙ sym (has-retain t (has s) q))) in
    omega (arith, is, len-retain_both t (has s) (λ x. not (has s x)) (λ _. refl)) where
      meet : (b c : Bool) → (b ≡ true → c ≡ true) → b ≡ (b && c)
      meet true c h = sym (h refl)
      meet false c h = refl

-- sets grow where ranges are added
pub with_range-grows : (s : Numbers) (a b : ℕ) → IsSubset s (with_range s a b)
with_range-grows s a b x e = has-with_range s a b x ∙ or_right (is_between a b x) (has s x) e

-- with a range more there are no fewer members
pub len-grows : (s : Numbers) (a b : ℕ) → len s ≤ len (with_range s a b)
len-grows s a b = len-subset s (with_range s a b) (with_range-grows s a b)

-- with a range that isn't empty there is a member
pub len-some : (s : Numbers) (a b : ℕ) → a < b → 0 < len (with_range s a b)
len-some s a b h =
    let sub : IsSubset (set_of_range a b) (with_range s a b) =
    λ x e. has-with_range s a b x ∙ or_left (is_between a b x) (has s x) (sym (has-set_of_range a b x) ∙ e) in
    omega (arith, len-subset (set_of_range a b) (with_range s a b) sub, len-set_of_range a b)

-- one more member to test
subset_step : (t : Numbers) (x y : ℕ) (ys : List ℕ) → (list_all (has t) ys ≡ true → list_any (eqb x) ys ≡ true → has t x ≡ true)
    → list_all (has t) (y ∷ ys) ≡ true → list_any (eqb x) (y ∷ ys) ≡ true → has t x ≡ true
subset_step t x y ys rest all any = pick (eqb x y) refl (has t y) refl any all where
  pick : (b : Bool) → eqb x y ≡ b → (c : Bool) → has t y ≡ c → (b || list_any (eqb x) ys) ≡ true → (c && list_all (has t) ys) ≡ true → has t x ≡ true
  pick true p true q any all = ap (has t) (eqb-true x y p) ∙ q
  pick true p false q any all = absurd (true≢false (sym all))
  pick false p true q any all = rest all any
  pick false p false q any all = absurd (true≢false (sym all))

-- all of a list are members, so each is
subset_list : (t : Numbers) (x : ℕ) (xs : List ℕ) → list_all (has t) xs ≡ true → list_any (eqb x) xs ≡ true → has t x ≡ true
subset_list t x [] all any = absurd (true≢false (sym any))
subset_list t x (y ∷ ys) all any = subset_step t x y ys (subset_list t x ys) all any

-- each of a list is a member, so all are
list_subset : (t : Numbers) (xs : List ℕ) → ((x : ℕ) → list_any (eqb x) xs ≡ true → has t x ≡ true) → list_all (has t) xs ≡ true
list_subset t [] h = refl
list_subset t (y ∷ ys) h =
    let here : has t y ≡ true = h y (ap (λ b. b || list_any (eqb y) ys) (eq-eqb y y refl)) in
    ap (λ b. b && list_all (has t) ys) here ∙ list_subset t ys (λ x e. h x (or_right (eqb x y) (list_any (eqb x) ys) e))

-- the test of a subset says whether it is one
pub subset-all : (s t : Numbers) → is_subset s t ≡ true → IsSubset s t
subset-all s t e x h = subset_list t x (keys s) e (sym (has-keys s x) ∙ h)

-- and a subset passes the test
pub all-subset : (s t : Numbers) → IsSubset s t → is_subset s t ≡ true
all-subset s t sub = list_subset t (keys s) (λ x e. sub x (has-keys s x ∙ e))

-- one more range, below the others
width_step : (r : Range) (rs : List Range) (low : ℕ) → AreApart low (r ∷ rs) → len (set_of_ranges rs) ≡ width_of rs
    → len (with_range (set_of_ranges rs) r.from r.to) ≡ r.to - r.from + width_of rs
width_step r rs low apart rest =
    let none : len (within (set_of_ranges rs) r.from r.to) ≡ 0 =
    none_left _ (λ x. has-within (set_of_ranges rs) r.from r.to x ∙ ap (λ b. is_between r.from r.to x && b) (has-set_of_ranges rs x)
    ∙ clear x (cases_lt x (r.to + 1))) in
    omega (arith, len-with_range (set_of_ranges rs) r.from r.to, none, rest) where
      clear : (x : ℕ) → ((x < r.to + 1) ⊎ (r.to + 1 ≤ x)) → (is_between r.from r.to x && in_ranges rs x) ≡ false
      clear x (inl h) = ap (λ b. is_between r.from r.to x && b) (below_ranges (r.to + 1) x rs apart.2 h) ∙ and-false (is_between r.from r.to x)
      clear x (inr h) = ap (λ b. b && in_ranges rs x) (beyond r.from r.to x (omega arith))

-- ranges that are apart have as many members as they are wide
pub len-set_of_ranges : (rs : List Range) (low : ℕ) → AreApart low rs → len (set_of_ranges rs) ≡ width_of rs
len-set_of_ranges [] low apart = len-empty nat_cmp (Unit {0})
len-set_of_ranges (r ∷ rs) low apart = width_step r rs low apart (len-set_of_ranges rs (r.to + 1) apart.2)

-- the ranges of a set have as many numbers as it has members
pub len-ranges : (s : Numbers) → len s ≡ width_of (ranges s)
len-ranges s = ap len (sym (set_of_ranges-ranges s)) ∙ len-set_of_ranges (ranges s) 0 (apart-ranges s)

-- a range that arrives is missing no more
pub missing-with_range : (s : Numbers) (a b n : ℕ) → missing (with_range s a b) n ≡ without_range (missing s n) a b
missing-with_range s a b n = same_numbers _ _ (λ q.
    has-missing (with_range s a b) n q ∙ ap (λ c. ltb q n && not c) (has-with_range s a b q) ∙ spread (ltb q n) (is_between a b q) (has s q)
    ∙ sym (has-without_range (missing s n) a b q ∙ ap (λ c. not (is_between a b q) && c) (has-missing s n q))) where
      spread : (p b c : Bool) → (p && not (b || c)) ≡ (not b && (p && not c))
      spread true true c = refl
      spread true false c = refl
      spread false true c = refl
      spread false false c = refl

-- a range that arrives makes at most one gap more
pub gaps-one_more : (s : Numbers) (a b n : ℕ) → length (gaps (with_range s a b) n) ≤ length (gaps s n) + 1
gaps-one_more s a b n = omega (arith, ap (λ t. length (ranges t)) (missing-with_range s a b n), ranges-one_less (missing s n) a b)

-- of an empty set all is missing
pub missing-empty : (n : ℕ) → missing empty n ≡ set_of_range 0 n
missing-empty n =
    same_numbers _ _ (λ q. has-missing empty n q ∙ ap (λ c. ltb q n && not c) (has-empty q) ∙ all (ltb q n) (leb 0 q) (le-leb 0 q (omega arith))
    ∙ sym (has-set_of_range 0 n q)) where
      all : (p z : Bool) → z ≡ true → (p && true) ≡ (z && p)
      all true z e = rw e refl
      all false z e = rw e refl

-- a range is its only maximal range
pub ranges-set_of_range : (a b : ℕ) → a < b → ranges (set_of_range a b) ≡ record { from = a; to = b } ∷ []
ranges-set_of_range a b h = ranges_are (set_of_range a b) _ (omega arith, h, tt) (λ q. has-set_of_range a b q ∙ sym (or-false (is_between a b q)))

-- one range alone leaves at most two gaps
pub gaps-one_range : (a b n : ℕ) → length (gaps (set_of_range a b) n) ≤ 2
gaps-one_range a b n = omega (arith, gaps-one_more empty a b n, ap (λ t. length (ranges t)) (missing-empty n), at_most n (cases_lt 0 n)) where
  at_most : (n : ℕ) → ((0 < n) ⊎ (n ≤ 0)) → length (ranges (set_of_range 0 n)) ≤ 1
  at_most n (inl h) = omega (arith, ap length (ranges-set_of_range 0 n h))
  at_most n (inr h) = omega (arith, ap length (ranges_are (set_of_range 0 n) [] tt (λ q. has-set_of_range 0 n q ∙ no_number 0 n q h)))
