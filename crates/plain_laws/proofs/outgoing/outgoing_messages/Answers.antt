use Rattle.homa_plain.proofs.OutgoingLaws.{sound-opened, sound-changed, sound-opened_by, few-opened_by, top-changed}
use Rattle.plain_laws.proofs.outgoing.outgoing_messages.Goals as goal

pub returns-clause-opened : goal.returns-clause-opened
returns-clause-opened c = sound-opened

pub returns-clause-changed : goal.returns-clause-changed
returns-clause-changed c = sound-changed

pub returns-clause-always : goal.returns-clause-always
returns-clause-always c = sound-opened_by

pub returns-clause-few : goal.returns-clause-few
returns-clause-few c = few-opened_by

pub returns-clause-top : goal.returns-clause-top
returns-clause-top c = top-changed
