use Rattle.std.proofs.Common.{arith}
use Rattle.text_lines.proofs.Spelled.{count_step}
use Rattle.text_lines.proofs.bytes.count.Goals as goal

pub loop-i-preserved : goal.loop-i-preserved
loop-i-preserved c = count_step c.loop-i.out c.loop-i.i (omega arith) c.loop-i.invariant
