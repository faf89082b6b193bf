use Rattle.range_set.proofs.SetAnswers.{covered_all, covered_subset}
use Rattle.range_set.proofs.RangeSet.has_all.Goals as goal

pub returns-clause-value : goal.returns-clause-value
returns-clause-value c = rw (c.has_all.ensures, c.as_slice.ensures.value, ← c.self.view_is) (covered_subset _ _ _ c.self.invariant.apart)

pub returns-clause-all : goal.returns-clause-all
returns-clause-all c = rw (c.has_all.ensures, c.as_slice.ensures.value, ← c.self.view_is) (covered_all _ _ _ c.self.invariant.apart)
