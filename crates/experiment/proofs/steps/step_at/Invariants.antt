-- What is left falls in a step that is left.
use Rattle.std.proofs.Common.{◌≡◌, ◌<◌, drop}
use Rattle.experiment.specs.Tables.{shares, step_at}
use Rattle.experiment.proofs.steps.step_at.Given as goal

abbrev pub invariant-loop-step : goal.invariant-loop-step
invariant-loop-step l = record {
  same : step_at l.left (drop l.step-index l.steps) ≡ step_at l.at l.steps;
  less : l.left < shares (drop l.step-index l.steps);
}
