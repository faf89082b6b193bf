use Rattle.std.proofs.Common.{ap, ◌∙◌}
use Rattle.place_heap.specs.Held.{Laid, items_of, places_of}
use Rattle.place_heap.proofs.Moves.{items_put, places_stay}
use Rattle.place_heap.proofs.sift.put_item.Goals as goal

pub returns-clause-items : goal.returns-clause-items
returns-clause-items g c = ap (λ (l : Laid). items_of l.list) c.put.ensures.cells ∙ items_put c.args.cells.now.list c.args.i _

pub returns-clause-places : goal.returns-clause-places
returns-clause-places g c =
    ap (λ (l : Laid). places_of l.list) c.put.ensures.cells ∙ places_stay c.args.cells.now.list c.args.i _ (ap (λ cell. cell.at) c.get-at.ensures.value)
