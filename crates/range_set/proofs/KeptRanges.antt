-- What is kept stays apart, few and below a million.
use Rattle.std.proofs.Common.{◌≡◌, ℕ, ◌<◌, ◌≤◌, List, length, sym, ap, subst, arith}
use Rattle.plain_sets.specs.Ranges.{AreApart, width_of, joined, parted}
use Rattle.plain_sets.specs.Numbers.{set_of_ranges}
use Rattle.plain_sets.proofs.RangeLaws.{ranges-set_of_ranges}
use Rattle.plain_sets.proofs.RangeChanges.{apart-joined, apart-parted, ranges-one_less}
use Rattle.plain_sets.proofs.RangeViews.{ranges-parted, set_of_ranges-joined, set_of_ranges-parted}
use Rattle.plain_sets.proofs.CountLaws.{len-without_range}
use Rattle.plain_sets.proofs.MoreCounts.{len-grows, len-set_of_ranges}
use Rattle.plain_sets.specs.Maps.{len}
use Rattle.range_set.specs.declared.kept.Range.{Range}
use Rattle.range_set.specs.Kept.{plain, AreSmall, AreKept}
use Rattle.range_set.specs.Lists.{rest_of}
use Rattle.range_set.proofs.PlainRanges.{length-plain, small-joined, small-parted, apart-rest, length-rest, small-rest}

-- joined ranges may be kept, where there are at most 64
pub kept-joined : (old new : List Range) (a b : ℕ) → a < b → b ≤ 1000000 → AreKept old → plain new ≡ joined a b (plain old) → length new ≤ 64 → AreKept new
kept-joined old new a b ab small kept is few = record {
  few = few;
  apart = subst (AreApart 0) (sym is) (apart-joined (plain old) a b 0 (omega arith) ab kept.apart);
  small = subst AreSmall (sym is) (small-joined (plain old) a b small kept.small);
}

-- parted ranges may be kept, where there are at most 64
pub kept-parted : (old new : List Range) (a b : ℕ) → a < b → AreKept old → plain new ≡ parted a b (plain old) → length new ≤ 64 → AreKept new
kept-parted old new a b ab kept is few = record {
  few = few;
  apart = subst (AreApart 0) (sym is) (apart-parted (plain old) a b 0 ab kept.apart);
  small = subst AreSmall (sym is) (small-parted (plain old) a b kept.small);
}

-- parted ranges are at most one more
pub room_parted : (old : List Range) (a b : ℕ) → a < b → AreKept old → length (parted a b (plain old)) ≤ 65
room_parted old a b ab kept =
    omega (
      arith,
      kept.few,
      length-plain old,
      ap length (ranges-set_of_ranges (plain old) kept.apart),
      ap length (ranges-parted (plain old) a b ab kept.apart),
      ranges-one_less (set_of_ranges (plain old)) a b,
    )

-- what is left behind a front may be kept
pub kept-rest : (old new : List Range) (most : ℕ) → 1 ≤ most → AreKept old → plain new ≡ rest_of most (plain old) → AreKept new
kept-rest old new most some kept is = record {
  few = omega (arith, kept.few, length-plain old, length-plain new, ap length is, length-rest (plain old) most);
  apart = subst (AreApart 0) (sym is) (apart-rest (plain old) most kept.apart some);
  small = subst AreSmall (sym is) (small-rest (plain old) most kept.small);
}

-- joined ranges have no fewer numbers
pub joined_wider : (old : List Range) (a b : ℕ) → a < b → AreKept old → width_of (plain old) ≤ width_of (joined a b (plain old))
joined_wider old a b ab kept =
    omega (
      arith,
      len-set_of_ranges (plain old) 0 kept.apart,
      len-set_of_ranges (joined a b (plain old)) 0 (apart-joined (plain old) a b 0 (omega arith) ab kept.apart),
      ap len (set_of_ranges-joined (plain old) a b 0 ab kept.apart),
      len-grows (set_of_ranges (plain old)) a b,
    )

-- parted ranges have no more numbers
pub parted_narrower : (old : List Range) (a b : ℕ) → a < b → AreKept old → width_of (parted a b (plain old)) ≤ width_of (plain old)
parted_narrower old a b ab kept =
    omega (
      arith,
      len-set_of_ranges (plain old) 0 kept.apart,
      len-set_of_ranges (parted a b (plain old)) 0 (apart-parted (plain old) a b 0 ab kept.apart),
      ap len (set_of_ranges-parted (plain old) a b 0 ab kept.apart),
      len-without_range (set_of_ranges (plain old)) a b,
    )
