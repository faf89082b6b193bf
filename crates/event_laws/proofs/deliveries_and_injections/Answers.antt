use Rattle.event_laws.proofs.Events.{deliver_done, inject_done}
use Rattle.event_laws.proofs.deliveries_and_injections.Goals as goal

pub returns : goal.returns
returns c = record { deliver = deliver_done; inject = inject_done }
