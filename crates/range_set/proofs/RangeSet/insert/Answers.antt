use Rattle.plain_sets.proofs.RangeViews.{ranges-joined}
use Rattle.range_set.proofs.SetAnswers.{IfCount-map, joins, fits}
use Rattle.range_set.proofs.RangeSet.insert.Goals as goal

pub returns-clause-added : goal.returns-clause-added
returns-clause-added c =
    rw (← c.self.view_is) (IfCount-map c.insert.result _ _ (λ n h. joins _ _ _ _ _ n c.requires.rising c.self.invariant.apart h) c.insert.ensures.added)

pub returns-clause-too_many : goal.returns-clause-too_many
returns-clause-too_many c = rw (← c.self.view_is, ranges-joined _ _ _ c.requires.rising c.self.invariant.apart) c.insert.ensures.too_many

pub returns-clause-fits : goal.returns-clause-fits
returns-clause-fits c = fits _ c.insert.ensures.kept_again
