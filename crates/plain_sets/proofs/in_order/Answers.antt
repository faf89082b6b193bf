use Rattle.plain_sets.proofs.OrderLaws.{permutation-ordered, sorted-ordered, placed_swap}
use Rattle.plain_sets.proofs.OrderSame.{ordered-permuted, ordered-map_same, ordered-filter}
use Rattle.plain_sets.proofs.OrderFirst.{first-ordered}
use Rattle.plain_sets.proofs.in_order.Goals as goal

pub returns-clause-same : goal.returns-clause-same
returns-clause-same g c = permutation-ordered

pub returns-clause-sorted : goal.returns-clause-sorted
returns-clause-sorted g c = sorted-ordered

pub returns-clause-any_order : goal.returns-clause-any_order
returns-clause-any_order g c = ordered-permuted

pub returns-clause-mapped : goal.returns-clause-mapped
returns-clause-mapped g c = ordered-map_same

pub returns-clause-filtered : goal.returns-clause-filtered
returns-clause-filtered g c = ordered-filter

pub returns-clause-first : goal.returns-clause-first
returns-clause-first g c = first-ordered

pub returns-clause-swapped : goal.returns-clause-swapped
returns-clause-swapped g c = placed_swap
