use Rattle.homa_plain.proofs.ArrivalLaws.{remaining-gaps, whole-gaps, gaps-whole, sound-opened, sound-with_bytes, sound-granted_to}
use Rattle.plain_laws.proofs.incoming.incoming_messages.Goals as goal

pub returns-clause-opened : goal.returns-clause-opened
returns-clause-opened c = sound-opened

pub returns-clause-taken : goal.returns-clause-taken
returns-clause-taken c = sound-with_bytes

pub returns-clause-granted : goal.returns-clause-granted
returns-clause-granted c = sound-granted_to

pub returns-clause-remaining : goal.returns-clause-remaining
returns-clause-remaining c = λ p sound. remaining-gaps p sound.below

pub returns-clause-whole : goal.returns-clause-whole
returns-clause-whole c = λ p sound. (whole-gaps p sound.below, gaps-whole p sound.below)
