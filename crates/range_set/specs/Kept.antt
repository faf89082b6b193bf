-- Ranges as the code keeps them, and the plain ranges that they are.
use Rattle.std.specs.Prelude.{◌≤◌, List, [], ◌∷◌, length}
use Rattle.std.specs.List.{AllByRecursion}
use Rattle.plain_sets.specs.Ranges.{range, Range as PlainRange, AreApart}
use Rattle.range_set.specs.declared.kept.Range.{Range}

-- the plain ranges
abbrev pub plain : List Range → List PlainRange
plain [] = []
plain (r ∷ rs) = range r.from r.to ∷ plain rs

-- no range ends above a million
abbrev pub AreSmall : List PlainRange → Type 0
AreSmall rs = AllByRecursion (λ r. r.to ≤ 1000000) rs

-- at most 64 ranges that are apart, of numbers below a million
pub record AreKept (rs : List Range) : Type 0 where
  pub few : length rs ≤ 64
  pub apart : AreApart 0 (plain rs)
  pub small : AreSmall (plain rs)
