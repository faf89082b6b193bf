-- The destinations that were gone over have their budget.
use Rattle.std.proofs.Common.{◌≡◌, ◌++◌, map, take, drop}
use Rattle.generated_runs.specs.Fabric.{refilled}
use Rattle.homa_fabric.proofs.network.Fabric.begin.Given as goal

abbrev pub invariant-loop-destination : goal.invariant-loop-destination
invariant-loop-destination l =
    l.destination-items ≡ map refilled (take l.destination-index l.initial.destination-items) ++ drop l.destination-index l.initial.destination-items
