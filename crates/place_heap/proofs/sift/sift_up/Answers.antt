use Rattle.std.proofs.Common.{sym, ◌∙◌, arith}
use Rattle.place_heap.specs.Order.{Item}
use Rattle.place_heap.specs.Sifted.{parent}
use Rattle.place_heap.proofs.Costs.{level_up}
use Rattle.place_heap.proofs.Moves.{wrote_both, sift_up_step}
use Rattle.place_heap.proofs.sift.sift_up.Goals as goal

pub up-preserved : goal.up-preserved
up-preserved g c =
    let above = c.item_at-other_slot.result in let one = c.place_item.ensures in let two = c.place_item-in-up.ensures in
    let item : Item = (c.args.slot, c.args.key) in
    let wrote = wrote_both c.up.cells.list c.place_item.new.cells.list c.place_item-in-up.new.cells.list c.up.i (parent c.up.i) item above one.items
    one.places one.len two.items two.places two.len in
    let step = sift_up_step c.up.cells.list c.place_item-in-up.new.cells.list c.args.len c.up.i item above c.up-test.true c.up.invariant.can
    (sym c.item_at-other_slot.ensures.item)
    (sym c.stands_before.ensures ∙ c.if-not-stands_before.false) wrote in
    record {
      can = step.0;
      same_len = step.1.same_len ∙ c.up.invariant.same_len;
      spot = two.spot ∙ one.spot ∙ c.up.invariant.spot;
      list = step.1.list ∙ c.up.invariant.list;
      cost = λ b small.
          let had = c.up.invariant.cost b small in
          let next = level_up c.up.i c.up.steps _ had.0 c.up-test.true had.1 had.2 in
          (next.0, next.1, omega (arith, next.2, two.steps, one.steps, c.item_at-other_slot.ensures.steps));
    }
