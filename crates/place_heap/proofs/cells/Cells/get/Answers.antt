use Rattle.std.proofs.Common.{◌≡◌, length, slice_index, sym, ap, ◌∙◌, arith}
use Rattle.std.proofs.lemmas.List.{get_or_read}
use Rattle.place_heap.specs.Cells.{cell_at, noted_place, unused_cell}
use Rattle.place_heap.specs.Held.{Laid}
use Rattle.place_heap.proofs.Values.{values_len, place_holds, place_blank}
use Rattle.place_heap.proofs.cells.Cells.get.Goals as goal

pub index-mark-requires : goal.index-mark-requires
index-mark-requires g c =
    let s = c.self.inside in
    let long : length c.args.self.now.list ≡ s.cap = ap (λ (l : Laid). length l.list) (sym c.self.view_is) ∙ values_len s.marks.items s.block.slots s.cap in
    omega (arith, c.self.invariant.0.written.many, s.marks.ok.0)

pub read-requires : goal.read-requires
read-requires g c =
    let s = c.self.inside in
    let long : length c.args.self.now.list ≡ s.cap = ap (λ (l : Laid). length l.list) (sym c.self.view_is) ∙ values_len s.marks.items s.block.slots s.cap in
    let read = get_or_read s.marks.items c.args.i c.index-mark.result.now (omega (arith, c.self.invariant.0.written.many)) c.index-mark.ensures 0 in
    let is : slice_index s.marks.items c.args.i ≡ 255 = omega (arith, read, c.if-mark.true) in (
      sym c.self.invariant.0.lies,
      c.self.invariant.0.near,
      omega (arith, c.self.invariant.0.written.small, c.self.invariant.0.written.len),
      (_, place_holds c.self.invariant.0.written c.args.i (omega arith) is),
    )

pub returns-then-mark-clause-value : goal.returns-then-mark-clause-value
returns-then-mark-clause-value g c =
    let s = c.self.inside in
    let long : length c.args.self.now.list ≡ s.cap = ap (λ (l : Laid). length l.list) (sym c.self.view_is) ∙ values_len s.marks.items s.block.slots s.cap in
    let read = get_or_read s.marks.items c.args.i c.index-mark.result.now (omega (arith, c.self.invariant.0.written.many)) c.index-mark.ensures 0 in
    let is : slice_index s.marks.items c.args.i ≡ 255 = omega (arith, read, c.if-mark.true) in
    let held = place_holds c.self.invariant.0.written c.args.i (omega arith) is in
    cc (held, c.self.view_is, c.read.ensures)

pub returns-else-mark-clause-value : goal.returns-else-mark-clause-value
returns-else-mark-clause-value g c =
    let s = c.self.inside in
    let long : length c.args.self.now.list ≡ s.cap = ap (λ (l : Laid). length l.list) (sym c.self.view_is) ∙ values_len s.marks.items s.block.slots s.cap in
    let read = get_or_read s.marks.items c.args.i c.index-mark.result.now (omega (arith, c.self.invariant.0.written.many)) c.index-mark.ensures 0 in
    let blank = place_blank c.self.invariant.0.written c.args.i (omega arith) (λ e. absurd (omega (arith, read, e, c.if-mark.false))) in
    c.unused.ensures
    ∙ (ap unused_cell (c.place_of_mark.ensures ∙ ap (noted_place s.cap) read) ∙ (sym blank ∙ ap (λ (l : Laid). cell_at l.list c.args.i) c.self.view_is))
