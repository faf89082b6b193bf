use Rattle.event_laws.proofs.Events.{clock_done, restart_done, shift_done}
use Rattle.event_laws.proofs.other_events.Goals as goal

pub returns : goal.returns
returns c = record { clock = clock_done; restart = restart_done; shift = shift_done }
