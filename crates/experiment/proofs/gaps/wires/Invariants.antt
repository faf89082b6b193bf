-- The sum so far, and those of the lengths that are left.
use Rattle.std.proofs.Common.{◌≡◌, ◌≤◌, ◌+◌, ◌-◌, ◌*◌}
use Rattle.experiment.specs.Wires.{cut_of}
use Rattle.experiment.specs.Tables.{wires_drawn}
use Rattle.experiment.proofs.gaps.wires.Given as goal

abbrev pub invariant-lengths : goal.invariant-lengths
invariant-lengths l = record {
  sum : l.sum + wires_drawn (cut_of l.framing) (l.n - l.counter) l.workload l.draws ≡ wires_drawn (cut_of l.framing) l.n l.workload l.initial.draws;
  most : l.sum ≤ l.counter * 17179869184;
}
