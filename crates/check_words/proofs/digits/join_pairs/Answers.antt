use Rattle.std.proofs.Common.{arith, refl}
use Rattle.check_words.proofs.DigitLaws.{joined_more, joined_all}
use Rattle.check_words.proofs.digits.join_pairs.Goals as goal

pub loop-i-preserved : goal.loop-i-preserved
loop-i-preserved c = joined_more c.args.values.now c.loop-i.out c.loop-i.i _ (omega arith) (omega arith) refl c.loop-i.invariant

pub returns : goal.returns
returns c = joined_all c.args.values.now c.loop-i.out c.loop-i.i (omega arith) (omega arith) c.loop-i.invariant
