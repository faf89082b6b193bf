use Rattle.plain_sets.proofs.MoreCounts.{len-set_of_ranges}
use Rattle.std.proofs.Common.{sym}
use Rattle.range_set.proofs.Walks.{width-kept}
use Rattle.range_set.proofs.SetAnswers.{fits}
use Rattle.range_set.proofs.RangeSet.count.Goals as goal

pub returns-clause-value : goal.returns-clause-value
returns-clause-value c = rw (c.width.ensures, c.as_slice.ensures.value, ← c.self.view_is) (sym (len-set_of_ranges _ 0 c.self.invariant.apart))

pub returns-clause-small : goal.returns-clause-small
returns-clause-small c = rw (c.width.ensures, c.as_slice.ensures.value) (width-kept _ c.self.invariant)

pub returns-clause-below : goal.returns-clause-below
returns-clause-below c = rw (← c.self.view_is) (fits _ c.self.invariant).below
