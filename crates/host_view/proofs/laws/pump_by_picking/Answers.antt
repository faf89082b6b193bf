use Rattle.host_view.proofs.Pump.{picked, idle, later_ready}
use Rattle.host_view.proofs.laws.pump_by_picking.Goals as goal

pub returns : goal.returns
returns c = record { first = picked; none = idle; later = later_ready }
