use Rattle.std.proofs.Common.{◌≡◌, ◌++◌, take}
use Rattle.range_set.proofs.kept.append.Given as goal

abbrev pub invariant-loop-range : goal.invariant-loop-range
invariant-loop-range g l = l.out.items ≡ l.initial.out.items ++ take l.range-index l.ranges
