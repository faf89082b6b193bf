use Rattle.std.proofs.Common.{arith}
use Rattle.check_words.proofs.DigitLaws.{all_raised}
use Rattle.check_words.proofs.digits.raise.Goals as goal

pub loop-i-preserved : goal.loop-i-preserved
loop-i-preserved c =
    let most = c.loop-i.most in
    let values = c.args.values.now in
    let i = c.loop-i.i in
    let h = c.requires in
    let len = c.loop-i.auto.most in
    all_raised c.args.most.now most values i c.max-greater.result (omega (arith, h, len)) (omega arith)
    c.max-greater.ensures c.loop-i.invariant
