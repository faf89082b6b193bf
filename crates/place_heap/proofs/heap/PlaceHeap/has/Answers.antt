use Rattle.std.proofs.Common.{◌↔◌, IsTrue, IsSome, length, sym, subst, ◌<◌}
use Rattle.std.specs.Prelude.{nat_lt, slice_index}
use Rattle.place_heap.specs.Order.{key_in}
use Rattle.place_heap.specs.Held.{Held, list_of, places_of}
use Rattle.place_heap.proofs.Lists.{is_present}
use Rattle.place_heap.proofs.heap.PlaceHeap.has.Goals as goal

pub returns-clause-present : goal.returns-clause-present
returns-clause-present g c =
    let inside : c.args.slot < length c.self.inside.cells.list = subst (λ (h : Held). c.args.slot < length h.cells) (sym c.self.view_is) c.requires in
    let place = slice_index (places_of c.self.inside.cells.list) c.args.slot in
    rw c.place_of.ensures.place
    (subst (λ (h : Held). IsTrue (nat_lt place c.self.inside.len) ↔ IsSome (key_in c.args.slot (list_of h))) c.self.view_is
    (is_present c.self.inside.cells.list c.self.inside.len c.self.invariant c.args.slot inside))
