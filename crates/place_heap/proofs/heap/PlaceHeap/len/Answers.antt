use Rattle.std.proofs.Common.{length, ap, ◌∙◌}
use Rattle.place_heap.specs.Held.{list_of}
use Rattle.place_heap.proofs.Lists.{list_len}
use Rattle.place_heap.proofs.heap.PlaceHeap.len.Goals as goal

pub returns-clause-list : goal.returns-clause-list
returns-clause-list c = list_len c.self.inside.cells.list c.self.inside.len c.self.invariant ∙ ap (λ h. length (list_of h)) c.self.view_is
