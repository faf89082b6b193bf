-- One length less is left.
use Rattle.std.proofs.Common.{◌∙◌, ◌-◌, sym, arith}
use Rattle.experiment.proofs.LengthLaws.{after_on, after-none}
use Rattle.experiment.proofs.gaps.draw_lengths.Goals as goal

pub lengths-preserved : goal.lengths-preserved
lengths-preserved c =
    sym (after_on c.args.workload.now c.lengths.draws c.args.n c.lengths.counter c.draw.result c.draw.new.draws c.lengths-test.true c.draw.ensures.drawn)
    ∙ c.lengths.invariant

pub returns : goal.returns
returns c =
    sym (after-none (c.args.n - c.lengths.counter) c.args.workload.now c.lengths.draws (omega (arith, c.lengths-test.false))) ∙ c.lengths.invariant
