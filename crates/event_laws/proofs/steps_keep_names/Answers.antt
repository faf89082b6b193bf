use Rattle.event_laws.proofs.Names.{call_named, arrival_named, turn_named, new_named, renumber}
use Rattle.event_laws.proofs.steps_keep_names.Goals as goal

pub returns-clause-call : goal.returns-clause-call
returns-clause-call c = call_named

pub returns-clause-arrival : goal.returns-clause-arrival
returns-clause-arrival c = arrival_named

pub returns-clause-turn : goal.returns-clause-turn
returns-clause-turn c s resend id = turn_named s id resend

pub returns-clause-new : goal.returns-clause-new
returns-clause-new c = new_named

pub returns-clause-renumber : goal.returns-clause-renumber
returns-clause-renumber c = renumber
