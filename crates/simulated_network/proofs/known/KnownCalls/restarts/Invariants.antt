use Rattle.std.proofs.Common.{◌≡◌}
use Rattle.simulated_network.specs.Runs.{all_made}
use Rattle.simulated_network.proofs.known.KnownCalls.restarts.Given as goal

abbrev pub invariant-loop-place : goal.invariant-loop-place
invariant-loop-place l = (all_made l.self.calls ≡ all_made l.fn.self.calls) × (l.self.experiment ≡ l.fn.self.experiment)
    × (l.packets.state ≡ l.fn.packets.state) × (l.packets.agenda ≡ l.fn.packets.agenda)
