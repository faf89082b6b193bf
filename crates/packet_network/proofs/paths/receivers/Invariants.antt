-- As many receivers as turns were taken, of which nothing is known.
use Rattle.std.proofs.Common.{◌≡◌, length, map, replicate}
use Rattle.run_gauges.specs.Receivers.{known_of, nothing_known}
use Rattle.packet_network.proofs.paths.receivers.Given as goal

abbrev pub invariant-loop : goal.invariant-loop
invariant-loop l = (length l.receivers.items ≡ l.counter) × (map known_of l.receivers.items ≡ replicate l.counter (nothing_known l.fn.overcommit))
