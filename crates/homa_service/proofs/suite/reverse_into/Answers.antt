use Rattle.std.proofs.Common.{◌++◌, ◌∙◌, [], ◌∷◌, arith, reverse, sym}
use Rattle.std.proofs.lemmas.List.{get_or-reverse, length-reverse, take_all, take_more, take_more_set}
use Rattle.homa_service.proofs.suite.reverse_into.Goals as goal

pub loop-i-preserved : goal.loop-i-preserved
loop-i-preserved c =
    let bytes = c.args.bytes.now in
    let i = c.loop-i.i in
    let same = sym (get_or-reverse bytes i 0 (omega arith)) in
    take_more_set c.loop-i.out i _ (omega arith) ∙
    ((λ j. c.loop-i.invariant j ++ same j ∷ []) ∙ sym (take_more (reverse bytes) i 0 (omega (arith, length-reverse bytes))))

pub returns : goal.returns
returns c =
    let bytes = c.args.bytes.now in
    sym (take_all c.loop-i.i c.loop-i.out (omega arith)) ∙ (c.loop-i.invariant ∙ take_all c.loop-i.i (reverse bytes) (omega (arith, length-reverse bytes)))
