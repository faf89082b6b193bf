-- A request has counting bytes.
use Rattle.std.proofs.Common.{◌≡◌, ◌≤◌, ◌∙◌, ap, take}
use Rattle.homa_plain.specs.Script.{counting}
use Rattle.homa_generate.proofs.LineLaws.{take-counting}
use Rattle.homa_generate.proofs.lines.carry.Goals as goal

pub returns-in-Call-clause-carried : goal.returns-in-Call-clause-carried
returns-in-Call-clause-carried g c =
    let n = c.in-Call.t.len in
    let short : n ≤ 100000 = rw c.in-Call.is at c.requires.short in
    let bytes : take n c.deref.result.now ≡ counting 0 n = ap (take n) (c.deref.ensures.value ∙ c.args.setup.now.counting) ∙ take-counting 0 n 100000 short in
    rw c.in-Call.is (rw bytes at c.happen-in-Call.ensures.carried)
