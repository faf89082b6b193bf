use Rattle.event_laws.proofs.Apart.{call_apart, arrival_apart, turn_apart, new_apart}
use Rattle.event_laws.proofs.steps_stay_apart.Goals as goal

pub returns-clause-call : goal.returns-clause-call
returns-clause-call c = call_apart

pub returns-clause-arrival : goal.returns-clause-arrival
returns-clause-arrival c = arrival_apart

pub returns-clause-turn : goal.returns-clause-turn
returns-clause-turn c s resend id = turn_apart s id resend

pub returns-clause-new : goal.returns-clause-new
returns-clause-new c = new_apart
