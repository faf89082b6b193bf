use Rattle.std.proofs.Common.{length, sym, ap, ◌∙◌}
use Rattle.place_heap.specs.Held.{Laid}
use Rattle.place_heap.proofs.Values.{values_len}
use Rattle.place_heap.proofs.cells.Cells.cap.Goals as goal

pub returns-clause-len : goal.returns-clause-len
returns-clause-len c = sym (values_len c.self.inside.marks.items c.self.inside.block.slots c.self.inside.cap) ∙ ap (λ (l : Laid). length l.list) c.self.view_is
