use Rattle.std.proofs.Common.{◌≡◌, ◌+◌, ◌*◌, sym, ap, ◌∙◌, arith}
use Rattle.place_heap.specs.Held.{items_of, at}
use Rattle.place_heap.proofs.Moves.{only_child, left_child, right_child}
use Rattle.place_heap.proofs.sift.least_child.Goals as goal

pub returns-then-right-len-clause-least : goal.returns-then-right-len-clause-least
returns-then-right-len-clause-least g c =
    only_child (items_of c.args.cells.now.list) c.args.len c.args.i c.item_at-item.result c.item_at-item.result (sym c.item_at-item.ensures.item) (omega arith)

pub returns-then-stands_before-clause-least : goal.returns-then-stands_before-clause-least
returns-then-stands_before-clause-least g c =
    let items = items_of c.args.cells.now.list in
    let right : 2 * c.args.i + 1 + 1 ≡ 2 * c.args.i + 2 = omega arith in
    let there : at items (2 * c.args.i + 2) ≡ c.item_at-other.result = ap (at items) (sym right) ∙ sym c.item_at-other.ensures.item in
    rw right (right_child items c.args.len c.args.i c.item_at-item.result c.item_at-other.result (sym c.item_at-item.ensures.item) there (omega arith)
    (sym c.stands_before.ensures ∙ c.if-stands_before.true))

pub returns-else-stands_before-clause-least : goal.returns-else-stands_before-clause-least
returns-else-stands_before-clause-least g c =
    let items = items_of c.args.cells.now.list in
    let right : 2 * c.args.i + 1 + 1 ≡ 2 * c.args.i + 2 = omega arith in
    let there : at items (2 * c.args.i + 2) ≡ c.item_at-other.result = ap (at items) (sym right) ∙ sym c.item_at-other.ensures.item in
    left_child items c.args.len c.args.i c.item_at-item.result c.item_at-other.result (sym c.item_at-item.ensures.item) there (omega arith)
    (sym c.stands_before.ensures ∙ c.if-stands_before.false)
