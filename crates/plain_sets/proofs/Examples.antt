-- Examples, computed.
use Rattle.std.proofs.Common.{◌≡◌, refl, ℕ, List, [], ◌∷◌, Some, None}
use Rattle.std.specs.Ordering.{nat_cmp}
use Rattle.plain_sets.specs.Maps.{empty, insert, insert_all, remove, retain, checked, keys, values, len}
use Rattle.plain_sets.specs.Ranges.{Range, range}
use Rattle.plain_sets.specs.Numbers.{with_range, without_range, set_of_range, with_all, ranges, set_of_ranges, first_in, first_below, missing, gaps}
use Rattle.plain_sets.specs.Ordered.{placed, ordered, firsts}

-- three keys out of order, and one taken away
pub map_keys : keys (remove (insert (insert (insert (empty {X = ℕ} {R = nat_cmp}) 5 1) 2 7) 9 3) 2) ≡ 5 ∷ 9 ∷ []
unfolding empty insert remove retain checked keys
map_keys = refl

-- a later value of a key takes the place of the earlier one
pub map_values : values (insert (insert (insert (empty {X = ℕ} {R = nat_cmp}) 5 1) 2 7) 5 3) ≡ 7 ∷ 3 ∷ []
unfolding empty insert checked values
map_values = refl

-- a list over a part of another
pub map_bytes : values (insert_all (insert_all (empty {X = ℕ}) 0 (10 ∷ 11 ∷ 12 ∷ [])) 1 (20 ∷ 21 ∷ 22 ∷ [])) ≡ 10 ∷ 20 ∷ 21 ∷ 22 ∷ []
unfolding empty insert_all checked values
map_bytes = refl

-- the numbers 1, 2, 3, 7 and 8
abbrev few : List Range
few = range 1 4 ∷ range 7 9 ∷ []

-- numbers out of order make their ranges
pub two_ranges : ranges (with_all (3 ∷ 8 ∷ 1 ∷ 7 ∷ 2 ∷ []) empty) ≡ few
unfolding empty insert checked keys ranges
two_ranges = refl

-- a range that closes a hole joins its neighbours
pub joined_ranges : ranges (with_range (with_range (with_range empty 0 2) 5 8) 2 5) ≡ range 0 8 ∷ []
unfolding empty insert_all with_range checked keys ranges
joined_ranges = refl

-- a range taken out of the middle
pub parted_range : ranges (without_range (set_of_range 0 8) 2 5) ≡ range 0 2 ∷ range 5 8 ∷ []
unfolding empty insert_all with_range without_range retain checked keys ranges
parted_range = refl

-- three of eight numbers taken away
pub count : len (without_range (set_of_range 0 8) 2 5) ≡ 5
unfolding empty insert_all with_range without_range retain checked len
count = refl

-- what is missing round a range
pub two_gaps : gaps (set_of_range 2 4) 6 ≡ range 0 2 ∷ range 4 6 ∷ []
unfolding empty insert_all with_range retain checked keys ranges missing
two_gaps = refl

-- the first range, cut at a limit
pub below_three : first_below (set_of_ranges few) 3 ≡ Some (range 1 3)
unfolding empty insert_all with_range checked keys ranges first_in
below_three = refl

-- the first range between two bounds, cut at both
pub from_two : first_in (set_of_ranges few) 4 8 ≡ Some (range 7 8)
unfolding empty insert_all with_range checked keys ranges first_in
from_two = refl

-- no member between two bounds
pub in_no_range : first_in (set_of_ranges few) 4 7 ≡ None
unfolding empty insert_all with_range checked keys ranges first_in
in_no_range = refl

-- the second numbers decide where the first ones tie
pub three_in_order : ordered (λ p. p) ((4, 2) ∷ (7, 1) ∷ (4, 1) ∷ []) ≡ (4, 1) ∷ (4, 2) ∷ (7, 1) ∷ []
unfolding ordered
three_in_order = refl

-- a thing finds its place behind one of its own key
pub behind_its_own : placed (λ (p : ℕ × ℕ). (p.0, 0)) (4, 9) ((4, 2) ∷ (7, 1) ∷ []) ≡ (4, 2) ∷ (4, 9) ∷ (7, 1) ∷ []
behind_its_own = refl

-- the first of each of two senders
pub two_senders : firsts (λ (p : ℕ × ℕ). p.0) ((0, 5) ∷ (0, 6) ∷ (1, 7) ∷ []) ≡ (0, 5) ∷ (1, 7) ∷ []
unfolding firsts
two_senders = refl
