-- Packets that were lost make no difference to what comes next.
use Rattle.std.proofs.Common.{◌≡◌}
use Rattle.generated_runs.specs.Fabric.{next_of, on_the_way}
use Rattle.homa_fabric.proofs.inbound.Destination.next.Given as goal

abbrev pub invariant-loop-number : goal.invariant-loop-number
invariant-loop-number l = next_of l.fn.life l.fn.now l.fn.self l.fn.random ≡ next_of l.life l.now l.self l.random

abbrev pub decreases-loop-number : goal.decreases-loop-number
decreases-loop-number l = on_the_way l.self
