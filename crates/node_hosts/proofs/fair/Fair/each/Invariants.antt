use Rattle.std.proofs.Common.{◌≡◌, map}
use Rattle.node_hosts.proofs.fair.Fair.each.Given as goal

abbrev pub invariant-loop-service : goal.invariant-loop-service
invariant-loop-service g l = l.fair.items ≡ map (λ v. record { service = v }) l.yielded
