use Rattle.std.proofs.Common.{length, sym, ap, subst, ◌<◌, ◌≤◌, ◌∙◌, Some, arith}
use Rattle.std.specs.Prelude.{slice_index}
use Rattle.place_heap.specs.Order.{key_in, Item}
use Rattle.place_heap.specs.Held.{Held, list_of, items_of, places_of, at}
use Rattle.place_heap.proofs.Lists.{key_here, no_key_here}
use Rattle.place_heap.proofs.heap.PlaceHeap.key.Goals as goal

pub returns-then-place-self-clause-key : goal.returns-then-place-self-clause-key
returns-then-place-self-clause-key g c =
    let inside : c.args.slot < length c.self.inside.cells.list = subst (λ (h : Held). c.args.slot < length h.cells) (sym c.self.view_is) c.requires in
    let cells = c.self.inside.cells.list in
    let here : slice_index (places_of cells) c.args.slot < c.self.inside.len = omega (arith, c.place_of-place.ensures.place) in
    ap (λ (x : Item). Some x.1) (c.item_at.ensures.item ∙ ap (at (items_of cells)) c.place_of-place.ensures.place)
    ∙ sym (key_here cells c.self.inside.len c.self.invariant c.args.slot inside here) ∙ ap (λ h. key_in c.args.slot (list_of h)) c.self.view_is

pub returns-else-place-self-clause-key : goal.returns-else-place-self-clause-key
returns-else-place-self-clause-key g c =
    let cells = c.self.inside.cells.list in
    let none : c.self.inside.len ≤ slice_index (places_of cells) c.args.slot = omega (arith, c.place_of-place.ensures.place) in
    sym (no_key_here cells c.self.inside.len c.self.invariant c.args.slot none) ∙ ap (λ h. key_in c.args.slot (list_of h)) c.self.view_is
