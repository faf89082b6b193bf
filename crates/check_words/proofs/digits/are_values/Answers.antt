use Rattle.std.proofs.Common.{arith, ◌∙◌, get_or}
use Rattle.check_words.proofs.DigitLaws.{all_seen, greater_is}
use Rattle.check_words.proofs.digits.are_values.Goals as goal

pub loop-i-preserved : goal.loop-i-preserved
loop-i-preserved c =
    let values = c.args.values.now in
    let i = c.loop-i.i in
    all_seen values i c.loop-i.greatest c.max-greatest.result (omega arith)
    (c.max-greatest.ensures ∙ greater_is c.loop-i.greatest (get_or values i 0)) c.loop-i.invariant
