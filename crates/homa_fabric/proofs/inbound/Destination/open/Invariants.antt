-- As many empty queues as turns were taken.
use Rattle.std.proofs.Common.{◌≡◌, [], replicate}
use Rattle.circular_buffer.specs.Buffer.{buffer}
use Rattle.generated_runs.specs.Fabric.{most_queued}
use Rattle.homa_fabric.proofs.inbound.Destination.open.Given as goal

abbrev pub invariant-loop : goal.invariant-loop
invariant-loop l = l.levels.items ≡ replicate l.counter (buffer [] most_queued)
