use Rattle.std.proofs.Common.{length, sym, ap, ◌∙◌}
use Rattle.place_heap.specs.Held.{Laid}
use Rattle.place_heap.proofs.Values.{values_len}
use Rattle.place_heap.proofs.cells.Cells.into_block.Goals as goal

pub returns-clause-len : goal.returns-clause-len
returns-clause-len c =
    let s = c.self.inside in
    c.self.invariant.0.written.len ∙ sym (values_len s.marks.items s.block.slots s.cap) ∙ ap (λ (l : Laid). length l.list) c.self.view_is
