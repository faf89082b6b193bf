use Rattle.std.proofs.Common.{ap, refl, ◌∙◌}
use Rattle.place_heap.specs.Held.{Laid, items_of, places_of}
use Rattle.place_heap.proofs.Moves.{items_stay, places_put}
use Rattle.place_heap.proofs.sift.put_place.Goals as goal

pub returns-clause-items : goal.returns-clause-items
returns-clause-items g c = ap (λ (l : Laid). items_of l.list) c.put_at.ensures.cells ∙ items_stay c.args.cells.now.list c.args.slot _ refl refl

pub returns-clause-places : goal.returns-clause-places
returns-clause-places g c = ap (λ (l : Laid). places_of l.list) c.put_at.ensures.cells ∙ places_put c.args.cells.now.list c.args.slot _
