-- No level from here on has a packet.
use Rattle.std.proofs.Common.{◌≡◌, ℕ, ◌≤◌, []}
use Rattle.network_parts.specs.Queues.{queue_of}
use Rattle.network_parts.proofs.port.Port.highest.Given as goal

abbrev pub invariant-loop-level : goal.invariant-loop-level
invariant-loop-level g l = (k : ℕ) → l.level ≤ k → queue_of l.self.queues k ≡ []
