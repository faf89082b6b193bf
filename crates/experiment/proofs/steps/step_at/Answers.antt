-- Each step of a table rises.
use Rattle.experiment.proofs.StepLaws.{good_at}
use Rattle.experiment.proofs.steps.step_at.Goals as goal

pub returns-then-left-step-clause-rises : goal.returns-then-left-step-clause-rises
returns-then-left-step-clause-rises c = (good_at c.args.steps.now c.loop-step.step-index c.requires.table c.loop-step-test.true).rises

pub returns-then-left-step-clause-most : goal.returns-then-left-step-clause-most
returns-then-left-step-clause-most c = (good_at c.args.steps.now c.loop-step.step-index c.requires.table c.loop-step-test.true).most
