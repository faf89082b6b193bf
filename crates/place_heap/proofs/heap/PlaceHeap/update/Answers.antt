use Rattle.std.proofs.Common.{IsSome, length, sym, subst, ◌<◌, arith}
use Rattle.place_heap.specs.Order.{key_in}
use Rattle.place_heap.specs.Held.{Held, list_of}
use Rattle.place_heap.proofs.Lists.{present_in}
use Rattle.place_heap.proofs.heap.PlaceHeap.update.Goals as goal

pub place_of-place-requires : goal.place_of-place-requires
place_of-place-requires g c =
    (present_in c.self.inside.cells.list c.self.inside.len c.self.invariant c.args.slot
    (subst (λ (h : Held). IsSome (key_in c.args.slot (list_of h))) (sym c.self.view_is) c.requires)).0

pub rekey-requires-clause-slot : goal.rekey-requires-clause-slot
rekey-requires-clause-slot g c =
    let here = present_in c.self.inside.cells.list c.self.inside.len c.self.invariant c.args.slot
    (subst (λ (h : Held). IsSome (key_in c.args.slot (list_of h))) (sym c.self.view_is) c.requires) in
    subst (λ (h : Held). c.args.slot < length h.cells) c.self.view_is here.0

pub rekey-requires-clause-held : goal.rekey-requires-clause-held
rekey-requires-clause-held g c =
    let here = present_in c.self.inside.cells.list c.self.inside.len c.self.invariant c.args.slot
    (subst (λ (h : Held). IsSome (key_in c.args.slot (list_of h))) (sym c.self.view_is) c.requires) in
    subst (λ (h : Held). c.place_of-place.result < h.len) c.self.view_is (omega (arith, here.1, c.place_of-place.ensures.place))
