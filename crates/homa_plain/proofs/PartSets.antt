-- Facts on sets of numbers that the laws of parts share.
use Rattle.std.proofs.Common.{◌≡◌, ℕ, ◌+◌, ◌-◌, ◌<◌, ◌≤◌, Bool, true, false, not, ◌&&◌, ◌||◌, ltb, leb, min, max, List, [], ◌∷◌, length, refl, sym}
use Rattle.std.proofs.Common.{ap, ◌∙◌, arith, ◌⊎◌, inl, inr}
use Rattle.std.proofs.lemmas.Bool.{ltb-true, leb-true, cases_lt, and_parts, or_cases, true≢false}
use Rattle.std.proofs.lemmas.Bool.Decides.{nat_tests}
use Rattle.plain_sets.specs.Maps.{empty, retain, len}
use Rattle.plain_sets.specs.Ranges.{Range, is_between, in_ranges, AreApart, led, parted}
use Rattle.plain_sets.specs.Numbers.{Numbers, has, with_range, without_range, within, set_of_range, IsBelow, ranges}
use Rattle.plain_sets.proofs.MapLaws.{empty_of_len}
use Rattle.plain_sets.proofs.NumberLaws.{has-empty, has-retain, has-with_range, has-without_range, has-within, has-set_of_range, same_numbers}
use Rattle.plain_sets.proofs.NumberLaws.{without_range-nothing, with_range-again}
use Rattle.plain_sets.proofs.RangeLaws.{apart-ranges, in_ranges-ranges, at_from, ranges-empty}
use Rattle.plain_sets.proofs.RangeChanges.{ranges-without_range, ranges-one_more, length-led, length-unled}
use Rattle.plain_sets.proofs.CountLaws.{len-retain_both, len-set_of_range, none_left}

-- a number of a range is at its start or above, and below its end
pub in_range : (a b x : ℕ) → (leb a x && ltb x b) ≡ true → (a ≤ x) × (x < b)
in_range a b x e = let both = and_parts (leb a x) (ltb x b) e in (leb-true a x both.0, ltb-true x b both.1)

-- and the other way round
pub range_in : (a b x : ℕ) → a ≤ x → x < b → (leb a x && ltb x b) ≡ true
range_in a b x h k = grind (arith, nat_tests)

-- a member of a set with a range more is in the range, or was one
pub member_cases : (s : Numbers) (a b x : ℕ) → has (with_range s a b) x ≡ true → ((a ≤ x) × (x < b)) ⊎ (has s x ≡ true)
member_cases s a b x e =
    elim (or_cases (is_between a b x) (has s x) (sym (has-with_range s a b x) ∙ e)) [ inl h ↦ inl (in_range a b x h) | inr h ↦ inr h ]

-- a range below a number leaves a set below it
pub below-with_range : (s : Numbers) (a b n : ℕ) → IsBelow s n → b ≤ n → IsBelow (with_range s a b) n
below-with_range s a b n below h x e = elim (member_cases s a b x e) [ inl k ↦ omega (arith, k.1) | inr k ↦ below x k ]

-- the numbers of a range are below its end
pub below-set_of_range : (a b : ℕ) → IsBelow (set_of_range a b) b
below-set_of_range a b x e = (in_range a b x (sym (has-set_of_range a b x) ∙ e)).1

-- a set with numbers taken away is below what it was below
pub below-without_range : (s : Numbers) (a b n : ℕ) → IsBelow s n → IsBelow (without_range s a b) n
below-without_range s a b n below x e = below x (and_parts (not (is_between a b x)) (has s x) (sym (has-without_range s a b x) ∙ e)).1

-- one range, and one that goes on where it ends
pub one_range : (a b : ℕ) → length (ranges (set_of_range a b)) ≤ 1
one_range a b = omega (arith, ranges-one_more empty a b, ap length ranges-empty)

pub one_longer : (a b c : ℕ) → a ≤ b → b ≤ c → length (ranges (with_range (set_of_range a b) b c)) ≤ 1
one_longer a b c h k = omega (arith, ap (λ s. length (ranges s)) (with_range-again empty a b c h k), one_range a c)

-- what is taken away from the front makes no range more
length-parted_front : (rs : List Range) (a b low : ℕ) → a ≤ low → AreApart low rs → length (parted a b rs) ≤ length rs
length-parted_front [] a b low h apart = omega arith
length-parted_front (r ∷ rs) a b low h apart =
    omega (
      arith,
      length-unled r.from (min r.to a) (led (max r.from b) r.to (parted a b rs)) (omega (arith, apart.0)),
      length-led (max r.from b) r.to (parted a b rs),
      length-parted_front rs a b (r.to + 1) (omega (arith, apart.0, apart.1)) apart.2,
    )

-- ranges without a number below a begin at a or above
apart_from : (a : ℕ) (rs : List Range) → AreApart 0 rs → ((x : ℕ) → in_ranges rs x ≡ true → a ≤ x) → AreApart a rs
apart_from a [] apart all = tt
apart_from a (r ∷ rs) apart all = (all r.from (at_from 0 r rs apart), apart.1, apart.2)

-- a set without its front has no more ranges
pub ranges-front_less : (s : Numbers) (a b : ℕ) → ((x : ℕ) → has s x ≡ true → a ≤ x) → length (ranges (without_range s a b)) ≤ length (ranges s)
ranges-front_less s a b least =
    elim (cases_lt a b) [
      | inl h ↦ omega (
        arith,
        ap length (ranges-without_range s a b h),
        length-parted_front (ranges s) a b a (omega arith) (apart_from a (ranges s) (apart-ranges s) (λ x e. least x (sym (in_ranges-ranges s x) ∙ e))),
      )
      | inr h ↦ omega (arith, ap (λ t. length (ranges t)) (without_range-nothing s a b h))
    ]

-- a range more above, and one less below, may come in either order
pub with_without : (s : Numbers) (a b c d : ℕ) → b ≤ c → with_range (without_range s a b) c d ≡ without_range (with_range s c d) a b
with_without s a b c d h = same_numbers _ _ (λ q.
    has-with_range (without_range s a b) c d q ∙ ap (λ t. is_between c d q || t) (has-without_range s a b q)
    ∙ turned q (has s q) ∙ sym (has-without_range (with_range s c d) a b q ∙ ap (λ t. not (is_between a b q) && t) (has-with_range s c d q))) where
      turned : (q : ℕ) (t : Bool) → ((leb c q && ltb q d) || (not (leb a q && ltb q b) && t)) ≡ (not (leb a q && ltb q b) && ((leb c q && ltb q d) || t))
      turned q t = grind (arith, nat_tests)

-- the members of a range, and the numbers of the range that are none
within_count : (s : Numbers) (a b : ℕ) → len (within s a b) + len (retain (set_of_range a b) (λ x. not (has s x))) ≡ b - a
within_count s a b =
    let e : len (retain (set_of_range a b) (has s)) ≡ len (within s a b) = ap len (same_numbers _ _ (λ q.
    has-retain (set_of_range a b) (has s) q ∙ ap (λ t. has s q && t) (has-set_of_range a b q) ∙ turned (has s q) (is_between a b q)
    ∙ sym (has-within s a b q))) in
    omega (arith, e, len-retain_both (set_of_range a b) (has s) (λ x. not (has s x)) (λ _. refl), len-set_of_range a b) where
      turned : (p q : Bool) → (p && q) ≡ (q && p)
      turned true true = refl
      turned true false = refl
      turned false true = refl
      turned false false = refl

-- a range has as many members as numbers exactly where all its numbers are members
pub full_range : (s : Numbers) (a b : ℕ) → len (within s a b) ≡ b - a → (x : ℕ) → a ≤ x → x < b → has s x ≡ true
full_range s a b full x h k =
    let none : retain (set_of_range a b) (λ y. not (has s y)) ≡ empty = empty_of_len _ (omega (arith, within_count s a b)) in
    out (has s x) (is_between a b x) (range_in a b x h k)
    (ap (λ t. not (has s x) && t) (sym (has-set_of_range a b x)) ∙ sym (has-retain (set_of_range a b) (λ y. not (has s y)) x) ∙ ap (λ t. has t x) none
    ∙ has-empty x) where
      out : (p q : Bool) → q ≡ true → (not p && q) ≡ false → p ≡ true
      out true q e f = refl
      out false q e f = absurd (true≢false (sym e ∙ f))

pub range_full : (s : Numbers) (a b : ℕ) → ((x : ℕ) → a ≤ x → x < b → has s x ≡ true) → len (within s a b) ≡ b - a
range_full s a b all =
    omega (
      arith,
      within_count s a b,
      none_left _ (λ x.
          has-retain (set_of_range a b) (λ y. not (has s y)) x ∙ ap (λ t. not (has s x) && t) (has-set_of_range a b x) ∙ none x (is_between a b x) refl),
    ) where
      none : (x : ℕ) (t : Bool) → is_between a b x ≡ t → (not (has s x) && t) ≡ false
      none x true e = let h = in_range a b x e in rw (all x h.0 h.1) refl
      none x false e = elim (has s x) as (λ p. (not p && false) ≡ false) [ true ↦ refl | false ↦ refl ]
