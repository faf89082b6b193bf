use Rattle.step_laws.proofs.Bounds.{call-bounded, arrival-bounded, turn-bounded}
use Rattle.step_laws.proofs.laws.step_bounds.Goals as goal

pub returns-clause-call : goal.returns-clause-call
returns-clause-call c = call-bounded

pub returns-clause-arrival : goal.returns-clause-arrival
returns-clause-arrival c = arrival-bounded

pub returns-clause-turn : goal.returns-clause-turn
returns-clause-turn c = turn-bounded
