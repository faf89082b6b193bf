-- The sum so far.
use Rattle.std.proofs.Common.{◌≡◌, ◌≤◌, ◌*◌, take}
use Rattle.std.specs.List.{sum_by}
use Rattle.experiment.specs.Wires.{cut_of}
use Rattle.experiment.specs.Tables.{shares, step_wire}
use Rattle.experiment.proofs.steps.wires.Given as goal

abbrev pub invariant-loop-step : goal.invariant-loop-step
invariant-loop-step l = record {
  sum : l.sum ≡ sum_by (step_wire (cut_of l.framing)) (take l.step-index l.steps);
  bound : l.sum ≤ shares (take l.step-index l.steps) * 17179869184000;
}
