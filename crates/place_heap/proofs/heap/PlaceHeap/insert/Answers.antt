use Rattle.std.proofs.Common.{ℕ, length, max, sym, ap, subst, ◌<◌, ◌+◌, ◌∙◌, arith}
use Rattle.place_heap.specs.Order.{Item, key_in, placed, bits}
use Rattle.place_heap.specs.Held.{Held, list_of}
use Rattle.place_heap.proofs.Costs.{below_bits}
use Rattle.place_heap.proofs.Kept.{put_behind, kept_again}
use Rattle.place_heap.proofs.Lists.{absent_in, room_for, list_after_insert}
use Rattle.place_heap.proofs.heap.PlaceHeap.insert.Goals as goal

pub place_item-requires-clause-place : goal.place_item-requires-clause-place
place_item-requires-clause-place g c =
    let inside : c.args.slot < length c.self.inside.cells.list = subst (λ (h : Held). c.args.slot < length h.cells) (sym c.self.view_is) c.requires.slot in
    let none = ap (λ h. key_in c.args.slot (list_of h)) c.self.view_is ∙ c.requires.absent in
    room_for c.self.inside.cells.list c.self.inside.len c.self.invariant c.args.slot inside none

pub sift_up-requires : goal.sift_up-requires
sift_up-requires g c =
    let cells = c.self.inside.cells.list in let len = c.self.inside.len in let x : Item = (c.args.slot, c.args.key) in
    let inside : c.args.slot < length cells = subst (λ (h : Held). c.args.slot < length h.cells) (sym c.self.view_is) c.requires.slot in
    let none = absent_in cells len c.self.invariant c.args.slot inside (ap (λ h. key_in c.args.slot (list_of h)) c.self.view_is ∙ c.requires.absent) in
    put_behind cells c.place_item.new.cells.list len x c.self.invariant inside none c.place_item.ensures.items c.place_item.ensures.places
    c.place_item.ensures.len

pub invariant_of-self : goal.invariant_of-self
invariant_of-self g c =
    let inside : c.args.slot < length c.self.inside.cells.list = subst (λ (h : Held). c.args.slot < length h.cells) (sym c.self.view_is) c.requires.slot in
    let room = room_for c.self.inside.cells.list c.self.inside.len c.self.invariant c.args.slot inside
    (ap (λ h. key_in c.args.slot (list_of h)) c.self.view_is ∙ c.requires.absent) in
    kept_again c.place_item.new.cells.list c.sift_up.new.cells.list (c.self.inside.len + 1) (omega (arith, c.self.invariant.small, c.place_item.ensures.len))
    (omega (arith, room, c.place_item.ensures.len)) c.sift_up.ensures.sifted

pub returns-clause-list : goal.returns-clause-list
returns-clause-list g c =
    let cells = c.self.inside.cells.list in let len = c.self.inside.len in let x : Item = (c.args.slot, c.args.key) in
    let inside : c.args.slot < length cells = subst (λ (h : Held). c.args.slot < length h.cells) (sym c.self.view_is) c.requires.slot in
    let none = absent_in cells len c.self.invariant c.args.slot inside (ap (λ h. key_in c.args.slot (list_of h)) c.self.view_is ∙ c.requires.absent) in
    list_after_insert cells c.place_item.new.cells.list c.sift_up.new.cells.list len x c.self.invariant inside none c.place_item.ensures.items
    c.place_item.ensures.places c.place_item.ensures.len c.sift_up.ensures.sifted
    ∙ ap (λ h. placed x (list_of h)) c.self.view_is

pub returns-clause-kept : goal.returns-clause-kept
returns-clause-kept g c = invariant_of-self g c

pub returns-clause-steps : goal.returns-clause-steps
returns-clause-steps g c =
    let n : ℕ = max c.args.self.now.len (c.self.inside.len + 1) in
    let few : c.self.inside.len < n = omega arith in
    omega (arith, c.place_item.ensures.steps, c.sift_up.ensures.steps (bits n) (omega (arith, below_bits n)))
