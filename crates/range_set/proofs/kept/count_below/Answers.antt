use Rattle.std.proofs.Common.{arith}
use Rattle.range_set.proofs.Walks.{below_next}
use Rattle.range_set.proofs.kept.count_below.Goals as goal

pub loop-i-preserved : goal.loop-i-preserved
loop-i-preserved c = below_next c.args.kept.now c.loop-i.i c.args.a (omega arith) (omega arith) c.loop-i.invariant
