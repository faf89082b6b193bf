use Rattle.std.proofs.Common.{ap, ◌∙◌, Some, arith}
use Rattle.place_heap.specs.Order.{first_of}
use Rattle.place_heap.specs.Held.{list_of}
use Rattle.place_heap.proofs.Lists.{first_here, none_here}
use Rattle.place_heap.proofs.heap.PlaceHeap.first.Goals as goal

pub returns-then-self-eq0-clause-first : goal.returns-then-self-eq0-clause-first
returns-then-self-eq0-clause-first g c =
    none_here c.self.inside.cells.list c.self.inside.len c.self.invariant (omega arith) ∙ ap (λ h. first_of (list_of h)) c.self.view_is

pub returns-clause-first : goal.returns-clause-first
returns-clause-first g c =
    ap Some c.item_at.ensures.item ∙ first_here c.self.inside.cells.list c.self.inside.len c.self.invariant (omega arith)
    ∙ ap (λ h. first_of (list_of h)) c.self.view_is
