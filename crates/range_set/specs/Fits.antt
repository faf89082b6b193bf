-- Which sets a RangeSet holds, and how it answers ranges.
use Rattle.std.specs.Prelude.{ℕ, ◌+◌, ◌≤◌, min, length}
use Rattle.plain_sets.specs.Ranges.{Range, range}
use Rattle.plain_sets.specs.Numbers.{Numbers, IsBelow, ranges}

-- at most 64 ranges, of numbers below a million
pub record FitsRangeSet (s : Numbers) : Type 0 where
  pub few : length (ranges s) ≤ 64
  pub below : IsBelow s 1000000

-- a range as a call returns it: its first number, and the number after its last
abbrev pub bounds : Range → ℕ × ℕ
bounds r = (r.from, r.to)

-- the first part of a range, of at most `most` numbers
abbrev pub front : ℕ → Range → Range
front most r = range r.from (min r.to (r.from + most))
