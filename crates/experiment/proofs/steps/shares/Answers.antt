-- All shares together are few, and there is one.
use Rattle.std.proofs.Common.{arith}
use Rattle.experiment.proofs.StepLaws.{share_fits}
use Rattle.experiment.proofs.steps.shares.Goals as goal

pub overflow_add-sum : goal.overflow_add-sum
overflow_add-sum c =
    omega (arith, share_fits c.args.steps.now c.loop-step.step-index c.loop-step.sum c.requires c.loop-step-test.true c.loop-step.invariant)
