-- The first waiting range, as the set of the waiting bytes tells it.
use Rattle.std.proofs.Common.{◌≡◌, ℕ, ◌+◌, ◌-◌, ◌<◌, ◌≤◌, leb, ltb, min, max, List, [], ◌∷◌, refl, ap, ◌∙◌, arith, Option, Some, None}
use Rattle.std.specs.Prelude.{IfSome, MatchOption}
use Rattle.std.specs.Option.{option_map}
use Rattle.std.proofs.lemmas.Bool.{cond-true, cond-false, lt-ltb, lt-leb}
use Rattle.plain_sets.specs.Ranges.{Range, AreApart, cut}
use Rattle.plain_sets.specs.Numbers.{ranges, first_below}
use Rattle.plain_sets.specs.Ordered.{first_of}
use Rattle.plain_sets.proofs.CutLaws.{first_in-cut}
use Rattle.plain_sets.proofs.RangeLaws.{apart-ranges}
use Rattle.range_set.specs.Fits.{bounds, front}
use Rattle.homa_plain.specs.Outgoing.{Outgoing, front_of, next_range, IsSound, IsFront, IsIdle}
use Rattle.homa_plain.proofs.OutgoingLaws.{front-next_range}
use Rattle.homa_out.proofs.KeptLaws.{pair_ends}

-- the front of the first range
pub front_is : (seg : ℕ) (rs : List Range) → option_map (λ r. bounds (front seg r)) (first_of rs) ≡ option_map bounds (front_of rs seg)
front_is seg [] = refl
front_is seg (r ∷ rs) = refl

-- what is sent next is some bytes, at most seg, of the message
pub within-front : (p : Outgoing) (seg : ℕ) → 0 < seg → IsSound p
    → IfSome (option_map bounds (next_range p seg)) (λ r. (r.0 < r.1) × (r.1 ≤ r.0 + seg) × (r.1 ≤ p.length))
within-front p seg h sound = of (next_range p seg) (front-next_range p seg h sound) where
  of : (o : Option Range) → MatchOption o (IsIdle p) (IsFront p seg) → IfSome (option_map bounds o) (λ r. (r.0 < r.1) × (r.1 ≤ r.0 + seg) × (r.1 ≤ p.length))
  of None idle = tt
  of (Some r) is = (is.some, is.few, omega (arith, is.granted, sound.within))

-- so are the bytes that are taken from the set
pub within-taken : (p : Outgoing) (seg : ℕ) (o : Option (ℕ × ℕ)) → 0 < seg → IsSound p
    → o ≡ option_map (λ r. bounds (front seg r)) (first_of (ranges p.waiting))
    → IfSome o (λ r. (r.0 < r.1) × (r.1 ≤ r.0 + seg) × (r.1 ≤ p.length))
within-taken p seg o h sound e = rw (e ∙ front_is seg (ranges p.waiting)) (within-front p seg h sound)

-- the first range ends at the granted end or below, so that it is the first one below that end
pub first_waiting : (p : Outgoing) → IsSound p → first_below p.waiting p.granted ≡ first_of (ranges p.waiting)
first_waiting p sound = first_in-cut p.waiting 0 p.granted ∙ choose (ranges p.waiting) (apart-ranges p.waiting) (λ seg h. front-next_range p seg h sound) where
  choose : (rs : List Range) → AreApart 0 rs → ((seg : ℕ) → 0 < seg → MatchOption (front_of rs seg) (IsIdle p) (IsFront p seg))
      → cut 0 p.granted rs ≡ first_of rs
  choose [] apart fronts = refl
  choose (r ∷ rs) apart fronts =
      let last : min r.to (r.from + r.to) ≤ p.granted = (fronts r.to (omega (arith, apart.1))).granted in
      let some : r.from < r.to = apart.1 in
      cond-false (leb r.to 0) _ _ (lt-leb _ _ (omega arith))
      ∙ cond-true (ltb (max 0 r.from) p.granted) _ _ (lt-ltb _ _ (omega arith))
      ∙ ap Some (let from : max 0 r.from ≡ r.from = omega arith in let to : min p.granted r.to ≡ r.to = omega arith in rw (from, to) refl)

-- the front of the first range, from its ends
pub front_some : (p : Outgoing) (seg f t : ℕ) → IsSound p → Some (f, t) ≡ option_map bounds (first_below p.waiting p.granted) → f < t
    → Some (f, f + min seg (t - f)) ≡ option_map bounds (next_range p seg)
front_some p seg f t sound e h = choose (ranges p.waiting) (e ∙ ap (option_map bounds) (first_waiting p sound)) where
  choose : (rs : List Range) → Some (f, t) ≡ option_map bounds (first_of rs) → Some (f, f + min seg (t - f)) ≡ option_map bounds (front_of rs seg)
  choose [] e = cc
  choose (r ∷ rs) e =
      let ends = pair_ends r.from r.to f t e in
      let from : f ≡ r.from = ends.0 in
      let to : t ≡ r.to = ends.1 in
      let end : f + min seg (t - f) ≡ min r.to (r.from + seg) = omega arith in
      rw (end, from) refl

-- and where there is none
pub front_none : (p : Outgoing) (seg : ℕ) → IsSound p → None ≡ option_map bounds (first_below p.waiting p.granted) → None ≡ option_map bounds (next_range p seg)
front_none p seg sound e = choose (ranges p.waiting) (e ∙ ap (option_map bounds) (first_waiting p sound)) where
  choose : (rs : List Range) → None ≡ option_map bounds (first_of rs) → None ≡ option_map bounds (front_of rs seg)
  choose [] e = refl
  choose (r ∷ rs) e = cc
