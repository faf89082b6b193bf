use Rattle.plain_sets.proofs.RangeViews.{ranges-parted}
use Rattle.range_set.proofs.SetAnswers.{IfCount-map, parts, fits}
use Rattle.range_set.proofs.RangeSet.remove.Goals as goal

pub returns-clause-removed : goal.returns-clause-removed
returns-clause-removed c =
    rw (← c.self.view_is) (IfCount-map c.remove.result _ _ (λ n h. parts _ _ _ _ n c.requires.rising c.self.invariant.apart h) c.remove.ensures.removed)

pub returns-clause-too_many : goal.returns-clause-too_many
returns-clause-too_many c = rw (← c.self.view_is, ranges-parted _ _ _ c.requires.rising c.self.invariant.apart) c.remove.ensures.too_many

pub returns-clause-fits : goal.returns-clause-fits
returns-clause-fits c = fits _ c.remove.ensures.kept_again
