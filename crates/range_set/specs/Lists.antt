-- Lists of ranges, as the code walks them.
use Rattle.std.specs.Prelude.{◌≡◌, ℕ, ◌+◌, ◌≤◌, Bool, ◌&&◌, ◌||◌, nat_le, min, List, [], ◌∷◌, length}
use Rattle.std.specs.List.{list_any}
use Rattle.plain_sets.specs.Ranges.{Range, led, joined, parted, width_of}

-- whether one range has all numbers from a to b - 1
abbrev pub is_covered : ℕ → ℕ → List Range → Bool
is_covered a b rs = nat_le b a || list_any (λ r. nat_le r.from a && nat_le b r.to) rs

-- what is left of the ranges without the first part of the first one, of at most `most` numbers
abbrev pub rest_of : ℕ → List Range → List Range
rest_of most [] = []
rest_of most (r ∷ rs) = led (min r.to (r.from + most)) r.to rs

-- the new ranges are the old ones with a range added, n numbers wider, and at most `most`
pub record Joins (old new : List Range) (a b most n : ℕ) : Type 0 where
  pub list : new ≡ joined a b old
  pub wider : width_of old + n ≡ width_of new
  pub few : length new ≤ most

-- the new ranges are the old ones with a range taken away, n numbers narrower
pub record Parts (old new : List Range) (a b n : ℕ) : Type 0 where
  pub list : new ≡ parted a b old
  pub narrower : width_of new + n ≡ width_of old
