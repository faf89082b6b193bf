-- As many idle destinations as turns were taken.
use Rattle.std.proofs.Common.{◌≡◌, replicate}
use Rattle.generated_runs.specs.Fabric.{idle}
use Rattle.homa_fabric.proofs.network.Fabric.open.Given as goal

abbrev pub invariant-loop : goal.invariant-loop
invariant-loop l = l.destinations.items ≡ replicate l.counter idle
