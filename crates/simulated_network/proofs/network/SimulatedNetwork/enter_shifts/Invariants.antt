use Rattle.std.proofs.Common.{◌≡◌}
use Rattle.simulated_network.proofs.network.SimulatedNetwork.enter_shifts.Given as goal

abbrev pub invariant-loop-shift : goal.invariant-loop-shift
invariant-loop-shift l =
    (l.self-inside.known.experiment.now.load ≡ l.fn.self.load) × (l.self-inside.packets.state ≡ l.fn.self.network)
    × (l.self-inside.known.calls ≡ l.fn.self.calls) × (l.self-inside.known.transfers ≡ l.fn.self.transfers)
    × (l.self-inside.arrivals.drawn ≡ l.fn.self.drawn) × (l.self-inside.trouble ≡ l.fn.self.trouble)
