-- Each step of a table is good, and the sum stays small.
use Rattle.std.proofs.Math.Facts.{Fits-of_lt}
use Rattle.experiment.proofs.StepLaws.{good_at, wires_fit}
use Rattle.experiment.proofs.steps.wires.Goals as goal

pub step_wire-sum-requires-clause-rises : goal.step_wire-sum-requires-clause-rises
step_wire-sum-requires-clause-rises c = (good_at c.args.steps.now c.loop-step.step-index c.requires c.loop-step-test.true).rises

pub step_wire-sum-requires-clause-most : goal.step_wire-sum-requires-clause-most
step_wire-sum-requires-clause-most c = (good_at c.args.steps.now c.loop-step.step-index c.requires c.loop-step-test.true).most

pub step_wire-sum-requires-clause-share : goal.step_wire-sum-requires-clause-share
step_wire-sum-requires-clause-share c = (good_at c.args.steps.now c.loop-step.step-index c.requires c.loop-step-test.true).share_most

pub overflow_add-sum : goal.overflow_add-sum
overflow_add-sum c =
    Fits-of_lt (wires_fit c.args.steps.now c.loop-step.step-index c.loop-step.sum c.step_wire-sum.result c.requires c.loop-step-test.true
    c.loop-step.invariant.bound c.step_wire-sum.ensures.bound)
