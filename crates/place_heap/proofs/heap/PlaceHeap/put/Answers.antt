use Rattle.std.proofs.Common.{◌≡◌, ◌≤◌, ◌∙◌, None, sym, ap, subst, arith}
use Rattle.std.specs.Prelude.{slice_index}
use Rattle.place_heap.specs.Order.{key_in, placed}
use Rattle.place_heap.specs.Held.{Held, list_of, places_of}
use Rattle.place_heap.proofs.Absent.{none_out}
use Rattle.place_heap.proofs.Lists.{no_key_here}
use Rattle.place_heap.proofs.heap.PlaceHeap.put.Goals as goal

pub insert-requires-clause-absent : goal.insert-requires-clause-absent
insert-requires-clause-absent g c =
    let cells = c.self.inside.cells.list in let slot = c.args.slot in
    let none : c.self.inside.len ≤ slice_index (places_of cells) slot = omega (arith, c.place_of-place.ensures.place) in
    subst (λ (h : Held). key_in slot (list_of h) ≡ None) c.self.view_is (no_key_here cells c.self.inside.len c.self.invariant slot none)

pub returns-else-place-self-clause-list : goal.returns-else-place-self-clause-list
returns-else-place-self-clause-list g c =
    let cells = c.self.inside.cells.list in let slot = c.args.slot in
    let none : c.self.inside.len ≤ slice_index (places_of cells) slot = omega (arith, c.place_of-place.ensures.place) in
    let absent = subst (λ (h : Held). key_in slot (list_of h) ≡ None) c.self.view_is (no_key_here cells c.self.inside.len c.self.invariant slot none) in
    c.insert.ensures.list ∙ ap (placed (slot, c.args.key)) (sym (none_out slot (list_of c.args.self.now) absent))
