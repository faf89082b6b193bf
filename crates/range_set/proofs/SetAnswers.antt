-- What is told of a set whose ranges are kept.
use Rattle.std.proofs.Common.{◌≡◌, ℕ, ◌+◌, ◌-◌, ◌<◌, ◌≤◌, ◌==◌, ◌↔◌, Bool, true, false, ◌&&◌, ◌||◌, leb, min, List, [], ◌∷◌, length, refl, sym, ap}
use Rattle.std.proofs.Common.{◌∙◌, arith, ◌⊎◌, inl, inr, Option, Some, None}
use Rattle.std.specs.Prelude.{IsTrue, IsNone, IfSome, MatchOption}
use Rattle.std.specs.Option.{option_map}
use Rattle.std.specs.List.{list_any}
use Rattle.std.proofs.lemmas.Bool.{eqb-true, le-leb, lt-leb, cases_lt, true≢false}
use Rattle.std.proofs.lemmas.Bool.Decides.{nat_tests}
use Rattle.plain_sets.specs.Maps.{empty, len}
use Rattle.plain_sets.specs.Ranges.{Range as PlainRange, is_between, in_ranges, AreApart, width_of, led, cut, NoneIn, IsFirstIn}
use Rattle.plain_sets.specs.Numbers.{Numbers, has, without_range, set_of_range, is_subset, ranges, set_of_ranges, first_in}
use Rattle.plain_sets.specs.Ordered.{first_of}
use Rattle.plain_sets.proofs.NumberLaws.{beyond, has-set_of_range, with_range-nothing}
use Rattle.plain_sets.proofs.RangeLaws.{at_to, before, has-set_of_ranges, ranges-set_of_ranges, ranges-empty}
use Rattle.plain_sets.proofs.RangeChanges.{apart-joined, apart-parted}
use Rattle.plain_sets.proofs.RangeViews.{set_of_ranges-joined, set_of_ranges-parted, first_in-set_of_ranges}
use Rattle.plain_sets.proofs.CutLaws.{first-first_in}
use Rattle.plain_sets.proofs.MoreCounts.{len-set_of_ranges, subset-all, all-subset}
use Rattle.range_set.specs.declared.kept.Range.{Range}
use Rattle.range_set.specs.declared.Changed.{Changed}
use Rattle.range_set.specs.declared.Changed.TheVariants.{Count, TooMany}
use Rattle.range_set.specs.Changed.{IfCount, AddsRange, RemovesRange}
use Rattle.range_set.specs.Fits.{FitsRangeSet, bounds, front}
use Rattle.range_set.specs.Kept.{plain, AreKept}
use Rattle.range_set.specs.Lists.{is_covered, rest_of, Joins, Parts}
use Rattle.range_set.proofs.PlainRanges.{length-plain, below_million, led-some, parted-front, width-led, front_some, apart-rest}

-- a fact of a count by another one
pub IfCount-map : (r : Changed) (P Q : ℕ → Type 0) → ((n : ℕ) → P n → Q n) → IfCount r P → IfCount r Q
IfCount-map (Count n) P Q f h = f n h
IfCount-map TooMany P Q f h = tt

-- what is kept stands for a set that fits
pub fits : (rs : List Range) → AreKept rs → FitsRangeSet (set_of_ranges (plain rs))
fits rs kept = record {
  few = omega (arith, kept.few, length-plain rs, ap length (ranges-set_of_ranges (plain rs) kept.apart));
  below = λ x e. below_million (plain rs) x kept.small (sym (has-set_of_ranges (plain rs) x) ∙ e);
}

-- joined ranges stand for the set with a range more
pub joins : (old new : List PlainRange) (a b most n : ℕ) → a < b → AreApart 0 old → Joins old new a b most n
    → AddsRange (set_of_ranges old) (set_of_ranges new) a b most n
joins old new a b most n ab apart is =
    let apart' : AreApart 0 new = rw is.list (apart-joined old a b 0 (omega arith) ab apart) in
    record {
      set = ap set_of_ranges is.list ∙ set_of_ranges-joined old a b 0 ab apart;
      count = omega (arith, len-set_of_ranges old 0 apart, len-set_of_ranges new 0 apart', is.wider);
      few = omega (arith, ap length (ranges-set_of_ranges new apart'), is.few);
    }

-- parted ranges stand for the set with a range less
pub parts : (old new : List PlainRange) (a b n : ℕ) → a < b → AreApart 0 old → Parts old new a b n → RemovesRange (set_of_ranges old) (set_of_ranges new) a b n
parts old new a b n ab apart is =
    let apart' : AreApart 0 new = rw is.list (apart-parted old a b 0 ab apart) in
    record {
      set = ap set_of_ranges is.list ∙ set_of_ranges-parted old a b 0 ab apart;
      count = omega (arith, len-set_of_ranges old 0 apart, len-set_of_ranges new 0 apart', is.narrower);
    }

-- no range is kept where there is no number
pub none_kept : (rs : List PlainRange) → AreApart 0 rs → set_of_ranges rs ≡ empty → rs ≡ []
none_kept rs apart e = sym (ranges-set_of_ranges rs apart) ∙ ap ranges e ∙ ranges-empty

-- the set is empty exactly where nothing is kept
pub empty_kept : (rs : List Range) → AreKept rs → IsTrue (length rs == 0) ↔ (set_of_ranges (plain rs) ≡ empty)
empty_kept [] kept = (λ _. refl, λ _. refl)
empty_kept (r ∷ rs) kept = (
  λ e. let z : length (r ∷ rs) ≡ 0 = eqb-true (length (r ∷ rs)) 0 e in absurd (omega arith),
  λ e. let f : plain (r ∷ rs) ≡ [] = none_kept (plain (r ∷ rs)) kept.apart e in cc,
)

-- the ranges from zero on
pub upto_ranges : (n : ℕ) → ((0 < n) ⊎ (n ≤ 0)) → set_of_ranges (led 0 n []) ≡ set_of_range 0 n
upto_ranges n (inl h) = ap set_of_ranges (led-some 0 n [] h)
upto_ranges n (inr h) = let z : n ≡ 0 = omega arith in rw z (sym (with_range-nothing empty 0 0 (omega arith)))

-- the first range of the members is cut out of what is kept
pub first_value : (rs : List PlainRange) (s : Numbers) (a b : ℕ) → set_of_ranges rs ≡ s → AreApart 0 rs
    → option_map bounds (cut a b rs) ≡ option_map bounds (first_in s a b)
first_value rs s a b view apart = ap (option_map bounds) (sym (ap (λ t. first_in t a b) (sym view) ∙ first_in-set_of_ranges rs a b apart))

-- no first range exactly where no number is among those asked for
pub none_first : (s : Numbers) (a b : ℕ) → IsNone (option_map bounds (first_in s a b)) ↔ NoneIn (has s) a b
none_first s a b = of (first_in s a b) (first-first_in s a b) where
  of : (o : Option PlainRange) → MatchOption o (NoneIn (has s) a b) (IsFirstIn (has s) a b) → IsNone (option_map bounds o) ↔ NoneIn (has s) a b
  of None none = (λ _. none, λ _. refl)
  of (Some r) is = (
    λ e. absurd (true≢false e),
    λ none. absurd (true≢false (sym (is.pass r.from (omega arith) is.some) ∙ none r.from is.low (omega (arith, is.some, is.high)))),
  )

-- a first range is among the numbers asked for
pub within_first : (s : Numbers) (a b : ℕ) → IfSome (option_map bounds (first_in s a b)) (λ r. (a ≤ r.0) × (r.0 < r.1) × (r.1 ≤ b))
within_first s a b = of (first_in s a b) (first-first_in s a b) where
  of : (o : Option PlainRange) → MatchOption o (NoneIn (has s) a b) (IsFirstIn (has s) a b)
      → IfSome (option_map bounds o) (λ r. (a ≤ r.0) × (r.0 < r.1) × (r.1 ≤ b))
  of None none = tt
  of (Some r) is = (is.low, is.some, is.high)

-- a first range below a limit is below it
pub below_first : (s : Numbers) (limit : ℕ) → IfSome (option_map bounds (first_in s 0 limit)) (λ r. (r.0 < r.1) × (r.1 ≤ limit))
below_first s limit = of (first_in s 0 limit) (within_first s 0 limit) where
  of : (o : Option PlainRange) → IfSome (option_map bounds o) (λ r. (0 ≤ r.0) × (r.0 < r.1) × (r.1 ≤ limit))
      → IfSome (option_map bounds o) (λ r. (r.0 < r.1) × (r.1 ≤ limit))
  of None h = tt
  of (Some r) h = (h.1, h.2)

-- a number in the first range
in_first : (f t a b x : ℕ) (c : Bool) → (leb f a && leb b t) ≡ true → a ≤ x → x < b → (is_between f t x || c) ≡ true
in_first f t a b x c e h k = grind (arith, nat_tests)

-- a range that covers has all numbers
any_all : (rs : List PlainRange) (a b x : ℕ) → list_any (λ r. leb r.from a && leb b r.to) rs ≡ true → a ≤ x → x < b → in_ranges rs x ≡ true
any_all [] a b x e h k = absurd (true≢false (sym e))
any_all (r ∷ rs) a b x e h k =
    elim (leb r.from a && leb b r.to) as
    (λ c. (leb r.from a && leb b r.to) ≡ c → (c || list_any (λ r. leb r.from a && leb b r.to) rs) ≡ true →
    (is_between r.from r.to x || in_ranges rs x) ≡ true) [
      | true ↦ λ f _. in_first r.from r.to a b x (in_ranges rs x) f h k
      | false ↦ λ _ g. or_second (is_between r.from r.to x) (in_ranges rs x) (any_all rs a b x g h k)
    ] refl e where
      or_second : (p q : Bool) → q ≡ true → (p || q) ≡ true
      or_second true q e = refl
      or_second false q e = e

-- all numbers are in one range, where they are in ranges that are apart
all_any : (rs : List PlainRange) (low a b : ℕ) → AreApart low rs → a < b → ((x : ℕ) → a ≤ x → x < b → in_ranges rs x ≡ true)
    → list_any (λ r. leb r.from a && leb b r.to) rs ≡ true
all_any [] low a b apart ab all = absurd (true≢false (sym (all a (omega arith) ab)))
all_any (r ∷ rs) low a b apart ab all =
    choose (cases_lt a r.from) (cases_lt r.to b) (cases_lt r.to a)
    (λ m. all_any rs (r.to + 1) a b apart.2 ab (λ x f g. ap (λ c. c || in_ranges rs x) (sym (beyond r.from r.to x (omega arith))) ∙ all x f g)) where
      choose : ((a < r.from) ⊎ (r.from ≤ a)) → ((r.to < b) ⊎ (b ≤ r.to)) → ((r.to < a) ⊎ (a ≤ r.to))
          → (r.to < a → list_any (λ r. leb r.from a && leb b r.to) rs ≡ true)
          → list_any (λ r. leb r.from a && leb b r.to) (r ∷ rs) ≡ true
      choose (inl h) k m rest = absurd (true≢false (sym (all a (omega arith) ab) ∙ before low r rs a apart h))
      choose (inr h) (inr k) m rest = rw (le-leb r.from a h, le-leb b r.to k) refl
      choose (inr h) (inl k) (inr m) rest = absurd (true≢false (sym (all r.to m k) ∙ at_to low r rs apart))
      choose (inr h) (inl k) (inl m) rest = rw (lt-leb b r.to k, le-leb r.from a h) (rest m)

-- the numbers from a to b - 1 are members exactly where one range covers them
pub covered_all : (rs : List PlainRange) (a b : ℕ) → AreApart 0 rs → IsTrue (is_covered a b rs) ↔ ((x : ℕ) → a ≤ x → x < b → has (set_of_ranges rs) x ≡ true)
covered_all rs a b apart = of (cases_lt a b) where
  of : ((a < b) ⊎ (b ≤ a)) → IsTrue (is_covered a b rs) ↔ ((x : ℕ) → a ≤ x → x < b → has (set_of_ranges rs) x ≡ true)
  of (inl h) = rw (lt-leb b a h)
      (λ e x f g. has-set_of_ranges rs x ∙ any_all rs a b x e f g, λ all. all_any rs 0 a b apart h (λ x f g. sym (has-set_of_ranges rs x) ∙ all x f g))
  of (inr h) = rw (le-leb b a h) (λ _ x f g. absurd (omega arith), λ _. refl)

-- a number of a range
between : (a b x : ℕ) → is_between a b x ≡ true → (a ≤ x) × (x < b)
between a b x e = grind (arith, nat_tests)

-- and the other way round
is_in : (a b x : ℕ) → a ≤ x → x < b → is_between a b x ≡ true
is_in a b x h k = grind (arith, nat_tests)

-- two tests that pass together are one
same_test : (p q : Bool) → (p ≡ true → q ≡ true) → (q ≡ true → p ≡ true) → p ≡ q
same_test true q f g = sym (f refl)
same_test false true f g = g refl
same_test false false f g = refl

-- whether they are members, by the test of a subset
pub covered_subset : (rs : List PlainRange) (a b : ℕ) → AreApart 0 rs → is_covered a b rs ≡ is_subset (set_of_range a b) (set_of_ranges rs)
covered_subset rs a b apart = same_test _ _
    (λ e. all-subset (set_of_range a b) (set_of_ranges rs) (λ x f. let i : (a ≤ x) × (x < b) = between a b x (sym (has-set_of_range a b x) ∙ f) in
    (covered_all rs a b apart).0 e x i.0 i.1))
    (λ e. (covered_all rs a b apart).1 (λ x f g. subset-all (set_of_range a b) (set_of_ranges rs) e x (has-set_of_range a b x ∙ is_in a b x f g)))

-- how the front of the first range is answered
abbrev pub taken : ℕ → List PlainRange → Option (ℕ × ℕ)
taken most rs = option_map (λ r. bounds (front most r)) (first_of rs)

-- the first range of the set is the first that is kept
pub front_value : (rs : List PlainRange) (most : ℕ) → AreApart 0 rs
    → taken most rs ≡ option_map (λ r. bounds (front most r)) (first_of (ranges (set_of_ranges rs)))
front_value rs most apart = ap (taken most) (sym (ranges-set_of_ranges rs apart))

-- what is left stands for the set without the front
pub front_taken : (rs : List PlainRange) (most : ℕ) → AreApart 0 rs → 1 ≤ most
    → IfSome (taken most rs) (λ p. set_of_ranges (rest_of most rs) ≡ without_range (set_of_ranges rs) p.0 p.1)
front_taken [] most apart some = tt
front_taken (r ∷ rs) most apart some =
    let to : ℕ = min r.to (r.from + most) in
    ap set_of_ranges (sym (parted-front r rs 0 to apart (front_some r.from r.to most apart.1 some) (omega arith)))
    ∙ set_of_ranges-parted (r ∷ rs) r.from to 0 (front_some r.from r.to most apart.1 some) apart

-- the front has a number, and at most so many
pub front_within : (rs : List PlainRange) (most : ℕ) → AreApart 0 rs → 1 ≤ most → IfSome (taken most rs) (λ p. (p.0 < p.1) × (p.1 ≤ p.0 + most))
front_within [] most apart some = tt
front_within (r ∷ rs) most apart some = (front_some r.from r.to most apart.1 some, omega arith)

-- what is left has as many numbers fewer
pub front_count : (rs : List PlainRange) (most : ℕ) → AreApart 0 rs → 1 ≤ most
    → IfSome (taken most rs) (λ p. len (set_of_ranges (rest_of most rs)) + (p.1 - p.0) ≡ len (set_of_ranges rs))
front_count [] most apart some = tt
front_count (r ∷ rs) most apart some =
    let to : ℕ = min r.to (r.from + most) in
    let left : len (set_of_ranges (rest_of most (r ∷ rs))) ≡ r.to - to + width_of rs =
    len-set_of_ranges (rest_of most (r ∷ rs)) 0 (apart-rest (r ∷ rs) most apart some) ∙ width-led to r.to rs in
    let all : len (set_of_ranges (r ∷ rs)) ≡ r.to - r.from + width_of rs = len-set_of_ranges (r ∷ rs) 0 apart in
    omega (arith, left, all, apart.1)

-- no front exactly where the set is empty
pub none_front : (rs : List PlainRange) (most : ℕ) → AreApart 0 rs → IsNone (taken most rs) ↔ (set_of_ranges rs ≡ empty)
none_front [] most apart = (λ _. refl, λ _. refl)
none_front (r ∷ rs) most apart = (λ e. absurd (true≢false e), λ e. let f : r ∷ rs ≡ [] = none_kept (r ∷ rs) apart e in cc)
