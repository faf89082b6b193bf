use Rattle.range_set.proofs.SetAnswers.{first_value, none_first, within_first}
use Rattle.range_set.proofs.RangeSet.first_in.Goals as goal

pub returns-clause-value : goal.returns-clause-value
returns-clause-value c = rw (c.first_cut.ensures, c.as_slice.ensures.value) (first_value _ _ _ _ c.self.view_is c.self.invariant.apart)

pub returns-clause-none : goal.returns-clause-none
returns-clause-none c =
    rw (c.first_cut.ensures, c.as_slice.ensures.value, first_value _ _ c.args.a c.args.b c.self.view_is c.self.invariant.apart)
    (none_first c.args.self.now c.args.a c.args.b)

pub returns-clause-within : goal.returns-clause-within
returns-clause-within c =
    rw (c.first_cut.ensures, c.as_slice.ensures.value, first_value _ _ c.args.a c.args.b c.self.view_is c.self.invariant.apart)
    (within_first c.args.self.now c.args.a c.args.b)
