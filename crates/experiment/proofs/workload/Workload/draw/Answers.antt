-- The two draws, one after the other.
use Rattle.experiment.proofs.DrawLaws.{drawn}
use Rattle.experiment.proofs.workload.Workload.draw.Goals as goal

pub returns-clause-drawn : goal.returns-clause-drawn
returns-clause-drawn c =
    drawn c.args.self.now c.args.draws.now (c.below-at.result, c.below-at.new.self) (c.below.result, c.below.new.self) c.step_at-step.result
    (rw (c.shares.ensures.sum, c.deref.ensures.value, c.self.view_is) at c.below-at.ensures.drawn)
    (rw (c.deref-2.ensures.value, c.self.view_is) at c.step_at-step.ensures.at) c.below.ensures.drawn
