-- How many ranges are left where a piece is taken off.
use Rattle.std.proofs.Common.{◌≡◌, ℕ, ◌<◌, ◌≤◌, Bool, true, false, not, ◌&&◌, ◌||◌, ltb, leb, min, max, List, [], ◌∷◌, length, refl, sym, ap, ◌∙◌}
use Rattle.std.proofs.Common.{arith, inl, inr}
use Rattle.std.proofs.lemmas.Bool.{cases_lt, true≢false}
use Rattle.plain_sets.specs.Ranges.{Range, is_between, in_ranges, led, parted, NoneIn}
use Rattle.plain_sets.specs.Numbers.{Numbers, has, without_range, IsBelow, ranges}
use Rattle.plain_sets.specs.Maps.{empty}
use Rattle.plain_sets.proofs.NumberLaws.{has-empty, has-without_range, same_numbers}
use Rattle.homa_plain.proofs.PartSets.{range_in, in_range}
use Rattle.plain_sets.proofs.RangeLaws.{in_ranges-ranges, inside}
use Rattle.plain_sets.proofs.RangeChanges.{ranges-without_range, length-led, length-unled}

-- a number in the rest of the ranges is in the ranges
in_rest : (r : Range) (rs : List Range) (x : ℕ) → in_ranges rs x ≡ true → in_ranges (r ∷ rs) x ≡ true
in_rest r rs x e = either (is_between r.from r.to x) (in_ranges rs x) e where
  either : (s t : Bool) → t ≡ true → (s || t) ≡ true
  either true t e = refl
  either false t e = e

-- what no range has as a whole splits none
parted_few : (rs : List Range) (a b : ℕ) → (((x : ℕ) → a ≤ x → x < b → in_ranges rs x ≡ true) → ⊥) → length (parted a b rs) ≤ length rs
parted_few [] a b never = omega arith
parted_few (r ∷ rs) a b never =
    let rest = parted_few rs a b (λ all. never (λ x h k. in_rest r rs x (all x h k))) in
    elim (cases_lt r.from a) [
      | inr h ↦ omega (
        arith,
        rest,
        length-unled r.from (min r.to a) (led (max r.from b) r.to (parted a b rs)) (omega arith),
        length-led (max r.from b) r.to (parted a b rs),
      )
      | inl h ↦ elim (cases_lt b r.to) [
        | inl k ↦ absurd (never (λ x l j. inside r rs x (omega arith) (omega arith)))
        | inr k ↦ omega (
          arith,
          rest,
          length-led r.from (min r.to a) (led (max r.from b) r.to (parted a b rs)),
          length-unled (max r.from b) r.to (parted a b rs) (omega arith),
        )
      ]
    ]

-- a piece that isn't missing as a whole leaves no more ranges
pub ranges_few : (s : Numbers) (a b : ℕ) → a < b → (((x : ℕ) → a ≤ x → x < b → has s x ≡ true) → ⊥) → length (ranges (without_range s a b)) ≤ length (ranges s)
ranges_few s a b h never =
    omega (arith, ap length (ranges-without_range s a b h), parted_few (ranges s) a b (λ all. never (λ x l k. sym (in_ranges-ranges s x) ∙ all x l k)))

-- where a range has all members, there is none before it
pub none_before : (m : Numbers) (a b : ℕ) → without_range m a b ≡ empty → NoneIn (has m) 0 a
none_before m a b e x low h = out (is_between a b x) refl where
  out : (t : Bool) → is_between a b x ≡ t → has m x ≡ false
  out true f = absurd (omega (arith, h, (in_range a b x f).0))
  out false f = sym (has-without_range m a b x ∙ ap (λ t. not t && has m x) f) ∙ ap (λ s. has s x) e ∙ has-empty x

-- and none behind it
pub none_behind : (m : Numbers) (a b n : ℕ) → without_range m a b ≡ empty → NoneIn (has m) b n
none_behind m a b n e x low h = out (is_between a b x) refl where
  out : (t : Bool) → is_between a b x ≡ t → has m x ≡ false
  out true f = absurd (omega (arith, low, (in_range a b x f).1))
  out false f = sym (has-without_range m a b x ∙ ap (λ t. not t && has m x) f) ∙ ap (λ s. has s x) e ∙ has-empty x

-- and the other way round
pub none_left_over : (m : Numbers) (a b n : ℕ) → IsBelow m n → NoneIn (has m) 0 a → NoneIn (has m) b n → without_range m a b ≡ empty
none_left_over m a b n below front back = same_numbers _ _ (λ x. has-without_range m a b x ∙ out x (has m x) refl ∙ sym (has-empty x)) where
  out : (x : ℕ) (t : Bool) → has m x ≡ t → (not (leb a x && ltb x b) && t) ≡ false
  out x false f = none (not (leb a x && ltb x b)) where
    none : (t : Bool) → (t && false) ≡ false
    none true = refl
    none false = refl
  out x true f =
      elim (cases_lt x a) [
        | inl h ↦ absurd (true≢false (sym f ∙ front x (omega arith) h))
        | inr h ↦ elim (cases_lt x b) [
          | inl k ↦ ap (λ t. not t && true) (range_in a b x h k)
          | inr k ↦ absurd (true≢false (sym f ∙ back x k (below x f)))
        ]
      ]
