use Rattle.std.proofs.Common.{◌≡◌, ◌+◌, drop}
use Rattle.simulated_network.specs.Measured.{before}
use Rattle.simulated_network.proofs.outcome.before.Given as goal

abbrev pub invariant-loop-call : goal.invariant-loop-call
invariant-loop-call l = (l.count ≡ l.call-index) × (before l.number l.calls ≡ l.call-index + before l.number (drop l.call-index l.calls))
