use Rattle.plain_sets.proofs.MapMembers.{insert-same, remove-absent, insert-again, remove-insert_new, insert-swap, values-insert_new}
use Rattle.plain_sets.proofs.changes.Goals as goal

pub returns-clause-same : goal.returns-clause-same
returns-clause-same g c = insert-same g.met.K.Ord.total

pub returns-clause-absent : goal.returns-clause-absent
returns-clause-absent g c = remove-absent g.met.K.Ord.total

pub returns-clause-again : goal.returns-clause-again
returns-clause-again g c = insert-again g.met.K.Ord.total

pub returns-clause-undone : goal.returns-clause-undone
returns-clause-undone g c = remove-insert_new g.met.K.Ord.total

pub returns-clause-swapped : goal.returns-clause-swapped
returns-clause-swapped g c = insert-swap g.met.K.Ord.total

pub returns-clause-values : goal.returns-clause-values
returns-clause-values g c = values-insert_new g.met.K.Ord.total
