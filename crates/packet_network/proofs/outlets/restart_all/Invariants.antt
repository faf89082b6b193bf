-- As much waits as at first.
use Rattle.std.proofs.Common.{◌≡◌}
use Rattle.packet_network.specs.Outlets.{waiting_at_all}
use Rattle.packet_network.proofs.outlets.restart_all.Given as goal

abbrev pub invariant-loop-outlet : goal.invariant-loop-outlet
invariant-loop-outlet l = waiting_at_all l.outlets ≡ waiting_at_all l.fn.outlets
