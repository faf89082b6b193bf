use Rattle.range_set.proofs.SetAnswers.{empty_kept}
use Rattle.range_set.proofs.RangeSet.is_empty.Goals as goal

pub returns : goal.returns
returns c = rw (c.is_empty.ensures, ← c.self.view_is) (empty_kept _ c.self.invariant)
