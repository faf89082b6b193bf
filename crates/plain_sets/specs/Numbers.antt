-- Finite sets of numbers, their maximal ranges, and what is missing of them below a length.
use Rattle.std.specs.Prelude.{◌≡◌, ℕ, ◌-◌, ◌<◌, Bool, true, not, Option, List, [], ◌∷◌, replicate}
use Rattle.std.specs.Ordering.{nat_cmp}
use Rattle.std.specs.List.{list_all}
use Rattle.plain_sets.specs.Maps.{Map, empty, insert, insert_all, remove, retain, contains_key, keys, code}
use Rattle.std.specs.Coded.{Coded, coded_ℕ}
use base.Stored.{coded_unit}
use Rattle.plain_sets.specs.Ranges.{Range, is_between, outside, ranges_of, cut}

-- a finite set of numbers
abbrev pub Numbers : Type 0
Numbers = Map nat_cmp (Unit {0})

-- the encoding of a set as a map to units, for types whose model is a set
abbrev pub numbers_code : Coded Numbers
numbers_code = code coded_ℕ coded_unit

-- whether x is a member
abbrev pub has : Numbers → ℕ → Bool
has s x = contains_key s x

-- the set with x
abbrev pub with_number : Numbers → ℕ → Numbers
with_number s x = insert s x tt

-- the set without x
abbrev pub without_number : Numbers → ℕ → Numbers
without_number s x = remove s x

-- the set with the numbers from a to b - 1
unfoldable pub with_range : Numbers → ℕ → ℕ → Numbers
with_range s a b = insert_all s a (replicate (b - a) tt)

-- the set without the numbers from a to b - 1
unfoldable pub without_range : Numbers → ℕ → ℕ → Numbers
without_range s a b = retain s (λ x. not (is_between a b x))

-- the members from a to b - 1
unfoldable pub within : Numbers → ℕ → ℕ → Numbers
within s a b = retain s (is_between a b)

-- the numbers from a to b - 1
abbrev pub set_of_range : ℕ → ℕ → Numbers
set_of_range a b = with_range empty a b

-- the set with these numbers
abbrev pub with_all : List ℕ → Numbers → Numbers
with_all [] s = s
with_all (x ∷ xs) s = with_number (with_all xs s) x

-- the members of one set or the other
abbrev pub union : Numbers → Numbers → Numbers
union s t = with_all (keys s) t

-- each member of s is one of t
abbrev pub IsSubset : Numbers → Numbers → Type 0
IsSubset s t = (x : ℕ) → has s x ≡ true → has t x ≡ true

-- whether each member of s is one of t
abbrev pub is_subset : Numbers → Numbers → Bool
is_subset s t = list_all (has t) (keys s)

-- each member is below a length
abbrev pub IsBelow : Numbers → ℕ → Type 0
IsBelow s length = (x : ℕ) → has s x ≡ true → x < length

-- the maximal ranges of a set, in order
unfoldable pub ranges : Numbers → List Range
ranges s = ranges_of (keys s)

-- the numbers of the ranges
abbrev pub set_of_ranges : List Range → Numbers
set_of_ranges [] = empty
set_of_ranges (r ∷ rs) = with_range (set_of_ranges rs) r.from r.to

-- the first range of the members from a to b - 1
unfoldable pub first_in : Numbers → ℕ → ℕ → Option Range
first_in s a b = cut a b (ranges s)

-- the first range of the members below a limit
abbrev pub first_below : Numbers → ℕ → Option Range
first_below s limit = first_in s 0 limit

-- the numbers below a length that are no members
unfoldable pub missing : Numbers → ℕ → Numbers
missing s length = retain (set_of_range 0 length) (outside (ranges s))

-- the maximal ranges of the numbers below a length that aren't members
abbrev pub gaps : Numbers → ℕ → List Range
gaps s length = ranges (missing s length)
