use Rattle.std.proofs.Common.{◌≡◌, drop}
use Rattle.plain_sets.specs.Ranges.{cut}
use Rattle.range_set.specs.Kept.{plain}
use Rattle.range_set.proofs.kept.first_cut.Given as goal

abbrev pub invariant-loop-range : goal.invariant-loop-range
invariant-loop-range l = cut l.a l.b (plain (drop l.range-index l.kept)) ≡ cut l.a l.b (plain l.kept)
