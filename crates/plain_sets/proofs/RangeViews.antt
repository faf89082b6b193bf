-- A list of ranges that are apart, as what is kept of a set.
use Rattle.std.proofs.Common.{◌≡◌, ℕ, ◌<◌, not, ◌&&◌, ◌||◌, List, sym, ap, ◌∙◌}
use Rattle.plain_sets.specs.Ranges.{Range, is_between, AreApart, joined, parted, cut}
use Rattle.plain_sets.specs.Numbers.{with_range, without_range, ranges, set_of_ranges, first_in}
use Rattle.plain_sets.proofs.NumberLaws.{has-with_range, has-without_range, same_numbers}
use Rattle.plain_sets.proofs.RangeLaws.{has-set_of_ranges, ranges-set_of_ranges}
use Rattle.plain_sets.proofs.RangeChanges.{in_ranges-joined, in_ranges-parted, ranges-with_range, ranges-without_range}
use Rattle.plain_sets.proofs.CutLaws.{first_in-cut}

-- joined ranges stand for the set with a range more
pub set_of_ranges-joined : (rs : List Range) (a b low : ℕ) → a < b → AreApart low rs → set_of_ranges (joined a b rs) ≡ with_range (set_of_ranges rs) a b
set_of_ranges-joined rs a b low ab apart = same_numbers _ _ (λ q.
    has-set_of_ranges (joined a b rs) q ∙ in_ranges-joined rs a b low q ab apart ∙ ap (λ c. is_between a b q || c) (sym (has-set_of_ranges rs q))
    ∙ sym (has-with_range (set_of_ranges rs) a b q))

-- parted ranges stand for the set with a range less
pub set_of_ranges-parted : (rs : List Range) (a b low : ℕ) → a < b → AreApart low rs → set_of_ranges (parted a b rs) ≡ without_range (set_of_ranges rs) a b
set_of_ranges-parted rs a b low ab apart = same_numbers _ _ (λ q.
    has-set_of_ranges (parted a b rs) q ∙ in_ranges-parted rs a b low q ab apart ∙ ap (λ c. not (is_between a b q) && c)
    (sym (has-set_of_ranges rs q)) ∙ sym (has-without_range (set_of_ranges rs) a b q))

-- joined ranges are the ranges of the set with a range more
pub ranges-joined : (rs : List Range) (a b : ℕ) → a < b → AreApart 0 rs → ranges (with_range (set_of_ranges rs) a b) ≡ joined a b rs
ranges-joined rs a b ab apart = ranges-with_range (set_of_ranges rs) a b ab ∙ ap (joined a b) (ranges-set_of_ranges rs apart)

-- parted ranges are the ranges of the set with a range less
pub ranges-parted : (rs : List Range) (a b : ℕ) → a < b → AreApart 0 rs → ranges (without_range (set_of_ranges rs) a b) ≡ parted a b rs
ranges-parted rs a b ab apart = ranges-without_range (set_of_ranges rs) a b ab ∙ ap (parted a b) (ranges-set_of_ranges rs apart)

-- the first range between two bounds is cut out of the list
pub first_in-set_of_ranges : (rs : List Range) (a b : ℕ) → AreApart 0 rs → first_in (set_of_ranges rs) a b ≡ cut a b rs
first_in-set_of_ranges rs a b apart = first_in-cut (set_of_ranges rs) a b ∙ ap (cut a b) (ranges-set_of_ranges rs apart)
