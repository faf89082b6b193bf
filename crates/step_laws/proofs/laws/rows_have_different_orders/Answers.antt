use Rattle.step_laws.proofs.OwnOrders.{new-own, call-own, arrival-own, turn-own}
use Rattle.step_laws.proofs.Places.{timers-keys, arrivals-keys, departures-keys}
use Rattle.step_laws.proofs.laws.rows_have_different_orders.Goals as goal

pub returns-clause-new : goal.returns-clause-new
returns-clause-new c = new-own

pub returns-clause-call : goal.returns-clause-call
returns-clause-call c = call-own

pub returns-clause-arrival : goal.returns-clause-arrival
returns-clause-arrival c = arrival-own

pub returns-clause-turn : goal.returns-clause-turn
returns-clause-turn c = turn-own

pub returns-clause-timers : goal.returns-clause-timers
returns-clause-timers c = timers-keys

pub returns-clause-arrivals : goal.returns-clause-arrivals
returns-clause-arrivals c = arrivals-keys

pub returns-clause-departures : goal.returns-clause-departures
returns-clause-departures c = departures-keys
