-- Each length has so many bytes at most.
use Rattle.std.proofs.Common.{◌-◌, arith}
use Rattle.experiment.proofs.StepLaws.{term_most}
use Rattle.experiment.proofs.steps.step_wire.Goals as goal

pub returns-clause-bound : goal.returns-clause-bound
returns-clause-bound c =
    rw (c.from.ensures, c.from-lengths.ensures)
    (term_most c.wire_between-wire.result (c.args.step.now.upto - c.args.step.now.above) c.args.step.now.share
    (omega (arith, c.requires.rises)) (c.wire_between-wire.ensures.most c.requires.most))
