use Rattle.std.proofs.Common.{◌≡◌, drop}
use Rattle.plain_sets.specs.Ranges.{absorbed}
use Rattle.range_set.specs.Kept.{plain}
use Rattle.range_set.proofs.kept.absorb.Given as goal

abbrev pub invariant-loop-i : goal.invariant-loop-i
invariant-loop-i l = absorbed l.a l.b (plain l.kept) ≡ absorbed l.from l.to (plain (drop l.i l.kept))
