use Rattle.std.proofs.Common.{◌≡◌, ◌+◌, drop}
use Rattle.plain_sets.specs.Ranges.{width_of, AreApart}
use Rattle.range_set.specs.Kept.{plain}
use Rattle.range_set.proofs.kept.width.Given as goal

abbrev pub invariant-loop-range : goal.invariant-loop-range
invariant-loop-range l =
    record {
      so_far : l.total + width_of (plain (drop l.range-index l.kept)) ≡ width_of (plain l.kept);
      apart : AreApart 0 (plain (drop l.range-index l.kept));
    }
