use Rattle.homa_plain.specs.Busy.{Resent}
use Rattle.std.proofs.Common.{ap}
use Rattle.homa_plain.proofs.OutgoingLaws.{busy-cases, cases-busy, part-queued}
use Rattle.plain_laws.proofs.busy.resends.Goals as goal

pub returns-clause-busy : goal.returns-clause-busy
returns-clause-busy c = λ p a b prio. (busy-cases p a b prio, λ cases. ap (λ (r : Resent). r.answer) (cases-busy p a b prio cases))

pub returns-clause-unchanged : goal.returns-clause-unchanged
returns-clause-unchanged c = λ p a b prio busy. ap (λ (r : Resent). r.part) (cases-busy p a b prio (busy-cases p a b prio busy))

pub returns-clause-queued : goal.returns-clause-queued
returns-clause-queued c = part-queued
