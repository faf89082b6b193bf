use Rattle.homa_plain.proofs.OutgoingLaws.{front-next_range, part-next, idle-next, idle-waiting, waiting-idle}
use Rattle.plain_laws.proofs.outgoing.sends.Goals as goal

pub returns-clause-front : goal.returns-clause-front
returns-clause-front c = front-next_range

pub returns-clause-taken : goal.returns-clause-taken
returns-clause-taken c = part-next

pub returns-clause-idle : goal.returns-clause-idle
returns-clause-idle c = idle-next

pub returns-clause-waiting : goal.returns-clause-waiting
returns-clause-waiting c = λ p. (idle-waiting p, waiting-idle p)
