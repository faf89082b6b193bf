use Rattle.range_set.proofs.SetAnswers.{first_value, none_first, below_first}
use Rattle.range_set.proofs.RangeSet.first_below.Goals as goal

pub returns-clause-value : goal.returns-clause-value
returns-clause-value c = rw (c.first_cut.ensures, c.as_slice.ensures.value) (first_value _ _ _ _ c.self.view_is c.self.invariant.apart)

pub returns-clause-none : goal.returns-clause-none
returns-clause-none c =
    rw (c.first_cut.ensures, c.as_slice.ensures.value, first_value _ _ 0 c.args.limit c.self.view_is c.self.invariant.apart)
    (none_first c.args.self.now 0 c.args.limit)

pub returns-clause-within : goal.returns-clause-within
returns-clause-within c =
    rw (c.first_cut.ensures, c.as_slice.ensures.value, first_value _ _ 0 c.args.limit c.self.view_is c.self.invariant.apart)
    (below_first c.args.self.now c.args.limit)
