use Rattle.std.proofs.Common.{◌≡◌, ◌++◌, drop}
use Rattle.plain_sets.specs.Ranges.{parted}
use Rattle.range_set.specs.Kept.{plain}
use Rattle.range_set.proofs.kept.part.Given as goal

abbrev pub invariant-loop-range : goal.invariant-loop-range
invariant-loop-range l = plain l.out.items ++ parted l.a l.b (plain (drop l.range-index l.kept)) ≡ parted l.a l.b (plain l.kept)
