use Rattle.event_laws.proofs.Events.{call_done, turn_done}
use Rattle.event_laws.proofs.calls_and_turns.Goals as goal

pub returns : goal.returns
returns c = record { call = call_done; turn = turn_done }
