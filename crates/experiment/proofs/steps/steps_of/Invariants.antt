-- The steps so far, and those of the rows to come.
use Rattle.std.proofs.Common.{◌≡◌, ◌++◌, drop}
use Rattle.experiment.specs.Tables.{steps_of}
use Rattle.experiment.proofs.steps.steps_of.Given as goal

abbrev pub invariant-loop-upto : goal.invariant-loop-upto
invariant-loop-upto l = l.steps.items ++ steps_of l.above (drop l.upto-index l.rows) ≡ steps_of 0 l.rows
