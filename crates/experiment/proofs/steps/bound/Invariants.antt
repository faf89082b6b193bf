-- What is left is reached in a step that is left.
use Rattle.std.proofs.Common.{◌≡◌, ◌<◌, ◌≤◌, ◌*◌, drop}
use Rattle.experiment.specs.Tables.{shares, length_at, bound_of}
use Rattle.experiment.proofs.steps.bound.Given as goal

abbrev pub invariant-loop-step : goal.invariant-loop-step
invariant-loop-step l = record {
  same : length_at l.parts l.left (drop l.step-index l.steps) ≡ bound_of l.part l.parts l.steps;
  some : 0 < l.left;
  within : l.left ≤ shares (drop l.step-index l.steps) * l.parts;
  last : l.part ≡ l.parts → l.left ≡ shares (drop l.step-index l.steps) * l.parts;
}
