-- All bytes are missing.
use Rattle.std.proofs.Common.{ap, sym, subst, ◌∙◌, arith}
use Rattle.plain_sets.specs.Numbers.{Numbers}
use Rattle.homa_in.specs.Part.{seen, unarrived, IsPart}
use Rattle.homa_in.proofs.AnswerLaws.{part-unarrived, seen-unarrived}
use Rattle.homa_in.proofs.arriving.Incoming.open.Goals as goal

pub invariant_of-result : goal.invariant_of-result
invariant_of-result c =
    subst (λ (m : Numbers). IsPart c.args.len c.args.granted m c.args.lease) (sym c.upto.ensures)
    (part-unarrived c.args.len c.args.granted c.args.lease c.requires.lease (omega arith) c.requires.granted)

pub returns-clause-seen : goal.returns-clause-seen
returns-clause-seen c = λ pool held.
    ap (λ (m : Numbers). seen pool (record (unarrived c.args.peer c.args.len c.args.order c.args.granted c.args.lease) { missing = m })) c.upto.ensures
    ∙ seen-unarrived pool c.args.peer c.args.len c.args.order c.args.granted c.args.lease held c.requires.lease c.requires.granted
