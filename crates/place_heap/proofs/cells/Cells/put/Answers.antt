use Rattle.std.proofs.Common.{◌≡◌, is_some, length, set, sym, ap, ◌∙◌, arith}
use Rattle.place_heap.specs.declared.cells.Block.{Block}
use Rattle.place_heap.specs.Held.{Laid}
use Rattle.place_heap.specs.Cells.{laid}
use Rattle.place_heap.proofs.Values.{values_len, put_values}
use Rattle.place_heap.proofs.cells.Cells.put.Goals as goal

pub write-requires : goal.write-requires
write-requires g c =
    let s = c.self.inside in
    let long : length c.args.self.now.list ≡ s.cap = ap (λ (l : Laid). length l.list) (sym c.self.view_is) ∙ values_len s.marks.items s.block.slots s.cap in
    let cells = c.self.invariant.0 in
    (sym cells.lies, cells.near, omega (arith, cells.written.len), omega (arith, cells.written.small, cells.written.len))

pub index_mut-requires : goal.index_mut-requires
index_mut-requires g c =
    let s = c.self.inside in
    let long : length c.args.self.now.list ≡ s.cap = ap (λ (l : Laid). length l.list) (sym c.self.view_is) ∙ values_len s.marks.items s.block.slots s.cap in
    omega (arith, c.self.invariant.0.written.many, s.marks.ok.0)

pub returns-clause-cells : goal.returns-clause-cells
returns-clause-cells g c =
    let s = c.self.inside in
    let long : length c.args.self.now.list ≡ s.cap = ap (λ (l : Laid). length l.list) (sym c.self.view_is) ∙ values_len s.marks.items s.block.slots s.cap in
    let list = put_values c.self.invariant.0.written c.args.i (omega arith) c.args.cell ∙ ap (λ (l : Laid). set l.list c.args.i c.args.cell) c.self.view_is in
    ap (λ (b : Block). laid (set s.marks.items c.args.i 255) b.base b.slots (is_some s.right) s.cap) c.write.ensures
    ∙ (λ j. record { list = list j; spot = (c.self.view_is j).spot })
