use Rattle.std.proofs.Common.{◌≡◌, drop}
use Rattle.range_set.specs.Kept.{plain}
use Rattle.range_set.specs.Lists.{is_covered}
use Rattle.range_set.proofs.kept.has_all.Given as goal

abbrev pub invariant-loop-range : goal.invariant-loop-range
invariant-loop-range l = is_covered l.a l.b (plain (drop l.range-index l.kept)) ≡ is_covered l.a l.b (plain l.kept)
