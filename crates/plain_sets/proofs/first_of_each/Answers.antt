use Rattle.plain_sets.proofs.FirstLaws.{firsts-nil, firsts-push, firsts-differ, firsts-senders, sorted-firsts, take-differ}
use Rattle.plain_sets.specs.Ordered.{firsts}
use Rattle.plain_sets.proofs.first_of_each.Goals as goal

pub returns-clause-none : goal.returns-clause-none
returns-clause-none g c = firsts-nil

pub returns-clause-one_more : goal.returns-clause-one_more
returns-clause-one_more g c = firsts-push

pub returns-clause-differ : goal.returns-clause-differ
returns-clause-differ g c = firsts-differ

pub returns-clause-senders : goal.returns-clause-senders
returns-clause-senders g c = firsts-senders

pub returns-clause-sorted : goal.returns-clause-sorted
returns-clause-sorted g c = sorted-firsts

pub returns-clause-few : goal.returns-clause-few
returns-clause-few g c sender xs k = take-differ sender k (firsts sender xs) (firsts-differ sender xs)
