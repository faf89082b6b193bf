use Rattle.range_set.proofs.KeptRanges.{kept-rest}
use Rattle.range_set.proofs.SetAnswers.{fits, front_value, front_taken, front_within, front_count, none_front}
use Rattle.range_set.proofs.RangeSet.take_first.Goals as goal

pub invariant_of-self : goal.invariant_of-self
invariant_of-self c = kept-rest _ _ _ c.requires c.self.invariant c.take_front.ensures.rest

pub returns-clause-front : goal.returns-clause-front
returns-clause-front c = rw (c.take_front.ensures.front, ← c.self.view_is) (front_value _ _ c.self.invariant.apart)

pub returns-clause-taken : goal.returns-clause-taken
returns-clause-taken c = rw (c.take_front.ensures.front, c.take_front.ensures.rest, ← c.self.view_is) (front_taken _ _ c.self.invariant.apart c.requires)

pub returns-clause-within : goal.returns-clause-within
returns-clause-within c = rw (c.take_front.ensures.front) (front_within _ _ c.self.invariant.apart c.requires)

pub returns-clause-count : goal.returns-clause-count
returns-clause-count c = rw (c.take_front.ensures.front, c.take_front.ensures.rest, ← c.self.view_is) (front_count _ _ c.self.invariant.apart c.requires)

pub returns-clause-none : goal.returns-clause-none
returns-clause-none c = rw (c.take_front.ensures.front, ← c.self.view_is) (none_front _ c.args.max c.self.invariant.apart)

pub returns-clause-fits : goal.returns-clause-fits
returns-clause-fits c = fits _ (kept-rest _ _ _ c.requires c.self.invariant c.take_front.ensures.rest)
