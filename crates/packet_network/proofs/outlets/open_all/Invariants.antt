-- As many queues as turns were taken, and nothing waits.
use Rattle.std.proofs.Common.{◌≡◌, length}
use Rattle.packet_network.specs.Outlets.{waiting_at_all}
use Rattle.packet_network.proofs.outlets.open_all.Given as goal

abbrev pub invariant-loop : goal.invariant-loop
invariant-loop l = (length l.outlets.items ≡ l.counter) × (waiting_at_all l.outlets.items ≡ 0)
