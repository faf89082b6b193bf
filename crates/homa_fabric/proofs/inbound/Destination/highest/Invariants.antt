-- No level from here on has a packet.
use Rattle.std.proofs.Common.{◌≡◌, ℕ, ◌≤◌, []}
use Rattle.generated_runs.specs.Fabric.{level_of}
use Rattle.homa_fabric.proofs.inbound.Destination.highest.Given as goal

abbrev pub invariant-loop-level : goal.invariant-loop-level
invariant-loop-level l = (k : ℕ) → l.level ≤ k → level_of l.self k ≡ []
