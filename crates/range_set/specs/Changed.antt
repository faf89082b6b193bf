-- What a change of a set did.
use Rattle.std.specs.Prelude.{◌≡◌, ℕ, ◌+◌, ◌≤◌, length}
use Rattle.plain_sets.specs.Maps.{len}
use Rattle.plain_sets.specs.Numbers.{Numbers, with_range, without_range, ranges}
use Rattle.range_set.specs.declared.Changed.{Changed}
use Rattle.range_set.specs.declared.Changed.TheVariants.{Count, TooMany}

-- if there is a count, the fact holds of it
abbrev pub IfCount : Changed → (ℕ → Type 0) → Type 0
IfCount (Count n) P = P n
IfCount TooMany P = Unit {0}

-- the numbers from a to b - 1 came to the set, n of them new, and it has at most `most` ranges
pub record AddsRange (old new : Numbers) (a b most n : ℕ) : Type 0 where
  pub set : new ≡ with_range old a b
  pub count : len old + n ≡ len new
  pub few : length (ranges new) ≤ most

-- the numbers from a to b - 1 left the set, n of them members
pub record RemovesRange (old new : Numbers) (a b n : ℕ) : Type 0 where
  pub set : new ≡ without_range old a b
  pub count : len new + n ≡ len old
