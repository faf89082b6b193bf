use Rattle.std.proofs.Common.{arith}
use Rattle.written_lines.proofs.Parts.{turns_more, turns_all}
use Rattle.written_lines.proofs.adding.join_digits.Goals as goal

pub digits-preserved : goal.digits-preserved
digits-preserved c = turns_more c.args.high.now c.args.low.now c.digits.out c.digits.i (omega arith) (omega arith) (omega arith) c.digits.invariant

pub returns : goal.returns
returns c = turns_all c.args.high.now c.args.low.now c.digits.out c.digits.i (omega arith) (omega arith) c.digits.invariant
