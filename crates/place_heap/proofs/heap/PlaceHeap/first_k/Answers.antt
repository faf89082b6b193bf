use Rattle.std.proofs.Common.{◌≡◌, ◌≤◌, length, take, false, sym, ap, ◌∙◌, arith}
use Rattle.place_heap.specs.Held.{items_of, listed, list_of}
use Rattle.place_heap.proofs.Moves.{items_len}
use Rattle.place_heap.proofs.Kept.{in_order}
use Rattle.place_heap.proofs.Fronts.{length-child, front_starts, popped_once, enough, no_more_left, empty_front}
use Rattle.place_heap.proofs.heap.PlaceHeap.first_k.Goals as goal

pub pops-init : goal.pops-init
pops-init g c =
    let items = items_of c.self.inside.cells.list in let len = c.self.inside.len in
    let none : length c.clear.new.self.items ≡ 0 = ap length c.clear.ensures in
    record {
      few = omega arith;
      room = omega (arith, ap length c.add.ensures.front, length-child items len 0 c.new-front.result.items, ap length c.new-front.ensures);
      state = (
        (λ _. false),
        rw (c.add.ensures.front, c.new-front.ensures, c.clear.ensures)
            (front_starts items len (omega (arith, items_len c.self.inside.cells.list, c.self.invariant.within))),
      );
      cost = omega (arith, c.add.ensures.steps);
    }

pub pops-preserved : goal.pops-preserved
pops-preserved g c =
    let items = items_of c.self.inside.cells.list in let len = c.self.inside.len in
    let fits : len ≤ length items = omega (arith, items_len c.self.inside.cells.list, c.self.invariant.within) in
    let state = c.pops.invariant.state in
    let once = popped_once items len c.pops.front.items c.pops.out.items state.0 fits (in_order items len c.self.invariant.heap) state.1
    c.as_slice.result.now c.least_of-at.result c.as_slice.ensures.value c.least_of-at.ensures c.remove-next.result c.remove-next.ensures.value
    c.remove-next.new.self.items c.add-in-pops.new.front.items c.add-in-pops-2.new.front.items c.push.new.self.items
    c.remove-next.ensures.items c.push.ensures.items c.add-in-pops.ensures.front c.add-in-pops-2.ensures.front in
    record {
      few = omega (arith, once.2, c.pops-test.true, c.len.ensures.value);
      room = omega (arith, once.1, once.2, c.pops.invariant.room);
      state = once.0;
      cost = omega (arith, once.2, c.pops.invariant.cost, c.add-in-pops.ensures.steps, c.add-in-pops-2.ensures.steps);
    }

pub returns-else-not-is_empty-clause-list : goal.returns-else-not-is_empty-clause-list
unfolding listed
returns-else-not-is_empty-clause-list g c =
    let items = items_of c.self.inside.cells.list in let len = c.self.inside.len in
    let state = c.pops.invariant.state in
    no_more_left items len c.args.k c.pops.front.items c.pops.out.items state.0 state.1
    (empty_front c.pops.front.items (sym c.is_empty.ensures ∙ c.if-not-is_empty.false)) c.pops.invariant.few
    ∙ ap (λ h. take c.args.k (list_of h)) c.self.view_is

pub returns-after-pops-clause-list : goal.returns-after-pops-clause-list
unfolding listed
returns-after-pops-clause-list g c =
    let items = items_of c.self.inside.cells.list in let len = c.self.inside.len in
    let state = c.pops.invariant.state in
    enough items len c.args.k c.pops.front.items c.pops.out.items state.0 state.1
    (omega (arith, c.pops.invariant.few, c.pops-test.false, c.len.ensures.value)) ∙ ap (λ h. take c.args.k (list_of h)) c.self.view_is
