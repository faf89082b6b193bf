use Rattle.std.proofs.Common.{refl, sym, ◌∙◌, arith}
use Rattle.place_heap.specs.Order.{Item}
use Rattle.place_heap.proofs.Costs.{level_down, deep_from}
use Rattle.place_heap.proofs.Moves.{wrote_both, sift_down_step, sift_down_ends}
use Rattle.place_heap.proofs.sift.sift_down.Goals as goal

pub down-init : goal.down-init
down-init g c = record {
  can = c.requires;
  same_len = refl;
  spot = refl;
  list = refl;
  cost = λ b small. (b, deep_from c.args.from c.args.len b small, omega arith);
}

pub returns-then-not-stands_before-clause-sifted : goal.returns-then-not-stands_before-clause-sifted
returns-then-not-stands_before-clause-sifted g c =
    let child = c.least_child-below.result in
    sift_down_ends c.args.cells.now.list c.down.cells.list c.args.len c.down.i child.0 (c.args.slot, c.args.key) child.1 c.down.invariant.can
    c.least_child-below.ensures.least
    (sym c.stands_before.ensures ∙ c.if-not-stands_before.true) c.down.invariant.same_len c.down.invariant.list

pub down-preserved : goal.down-preserved
down-preserved g c =
    let child =
    c.least_child-below.result in let down = c.least_child-below.ensures.least in let one = c.place_item.ensures in let two = c.place_item-in-down.ensures in
    let item : Item = (c.args.slot, c.args.key) in
    let wrote = wrote_both c.down.cells.list c.place_item.new.cells.list c.place_item-in-down.new.cells.list c.down.i child.0 item child.1 one.items
    one.places one.len two.items two.places two.len in
    let step = sift_down_step c.down.cells.list c.place_item-in-down.new.cells.list c.args.len c.down.i child.0 item child.1 c.down.invariant.can down
    (sym c.stands_before.ensures ∙ c.if-not-stands_before.false) wrote in
    record {
      can = step.0;
      same_len = step.1.same_len ∙ c.down.invariant.same_len;
      spot = two.spot ∙ one.spot ∙ c.down.invariant.spot;
      list = step.1.list ∙ c.down.invariant.list;
      cost = λ b small.
          let had = c.down.invariant.cost b small in
          let next = level_down c.down.i child.0 c.args.len c.down.steps _ had.0 down.below down.inside had.1 had.2 in
          (next.0, next.1, omega (arith, next.2, two.steps, one.steps, c.least_child-below.ensures.steps));
    }
