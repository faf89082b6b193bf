use Rattle.homa_plain.proofs.OutgoingLaws.{granted-grant, waiting-grant}
use Rattle.plain_laws.proofs.outgoing.grants_received.Goals as goal

pub returns-clause-granted : goal.returns-clause-granted
returns-clause-granted c = granted-grant

pub returns-clause-waiting : goal.returns-clause-waiting
returns-clause-waiting c = waiting-grant
