use Rattle.std.proofs.Common.{sym, subst}
use Rattle.place_heap.specs.declared.cells.Cell.{Cell}
use Rattle.std.specs.Prelude.{List}
use Rattle.place_heap.specs.Held.{AreKept}
use Rattle.place_heap.proofs.Kept.{new_kept}
use Rattle.place_heap.proofs.Lists.{list_new}
use Rattle.place_heap.proofs.heap.PlaceHeap.new.Goals as goal

pub invariant_of-result : goal.invariant_of-result
invariant_of-result c = subst (λ (cells : List Cell). AreKept cells 0) (sym c.in_ok-new.ensures) (new_kept c.args.cap c.requires)

pub returns-clause-empty : goal.returns-clause-empty
returns-clause-empty c = list_new c.in_ok-new.field-0.list

pub returns-clause-kept : goal.returns-clause-kept
returns-clause-kept c = subst (λ (cells : List Cell). AreKept cells 0) (sym c.in_ok-new.ensures) (new_kept c.args.cap c.requires)
