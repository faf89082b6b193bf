use Rattle.event_laws.specs.Among.{IsBelow}
use Rattle.event_laws.proofs.Among.{call_among, arrival_among, turn_among, new_among}
use Rattle.event_laws.proofs.steps_stay_among.Goals as goal

pub returns-clause-call : goal.returns-clause-call
returns-clause-call c s id hosts = call_among s id (IsBelow hosts)

pub returns-clause-arrival : goal.returns-clause-arrival
returns-clause-arrival c s id hosts = arrival_among s id (IsBelow hosts)

pub returns-clause-turn : goal.returns-clause-turn
returns-clause-turn c s resend id hosts = turn_among s id (IsBelow hosts) resend

pub returns-clause-new : goal.returns-clause-new
returns-clause-new c s id hosts = new_among s id (IsBelow hosts)
