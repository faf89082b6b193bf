-- The sum so far.
use Rattle.std.proofs.Common.{◌≡◌, take}
use Rattle.experiment.specs.Tables.{shares}
use Rattle.experiment.proofs.steps.shares.Given as goal

abbrev pub invariant-loop-step : goal.invariant-loop-step
invariant-loop-step l = l.sum ≡ shares (take l.step-index l.steps)
