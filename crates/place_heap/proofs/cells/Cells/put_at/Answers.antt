use Rattle.std.proofs.Common.{◌≡◌, ℕ, ◌<◌, Some, length, set, slice_index, is_some, sym, ap, ◌∙◌, arith}
use Rattle.std.proofs.lemmas.List.{get_or_read}
use Rattle.place_heap.specs.declared.cells.Block.{Block}
use Rattle.place_heap.specs.declared.cells.Cell.{Cell}
use Rattle.place_heap.specs.Cells.{cell_at, laid, noted_place, unused_cell}
use Rattle.place_heap.specs.Held.{Laid}
use Rattle.place_heap.proofs.Values.{values_len, noted_values, place_blank, place_holds, moved_values}
use Rattle.place_heap.proofs.cells.Cells.put_at.Goals as goal

-- a cell with another place
abbrev moved : Cell → ℕ → Cell
moved x at = record { key = x.key; slot = x.slot; at = at }

pub index-requires : goal.index-requires
index-requires g c =
    let s = c.self.inside in
    let long : length c.args.self.now.list ≡ s.cap = ap (λ (l : Laid). length l.list) (sym c.self.view_is) ∙ values_len s.marks.items s.block.slots s.cap in
    omega (arith, c.self.invariant.0.written.many, s.marks.ok.0)

pub write_place-requires : goal.write_place-requires
write_place-requires g c =
    let s = c.self.inside in
    let long : length c.args.self.now.list ≡ s.cap = ap (λ (l : Laid). length l.list) (sym c.self.view_is) ∙ values_len s.marks.items s.block.slots s.cap in
    let read = get_or_read s.marks.items c.args.i c.index.result.now (omega (arith, c.self.invariant.0.written.many)) c.index.ensures 0 in
    let is : slice_index s.marks.items c.args.i ≡ 255 = omega (arith, read, c.if-index.true) in
    let cells = c.self.invariant.0 in (
      sym cells.lies,
      cells.near,
      omega (arith, cells.written.small, cells.written.len),
      (_, place_holds cells.written c.args.i (omega arith) is),
    )

pub index_mut-requires : goal.index_mut-requires
index_mut-requires g c =
    let s = c.self.inside in
    let long : length c.args.self.now.list ≡ s.cap = ap (λ (l : Laid). length l.list) (sym c.self.view_is) ∙ values_len s.marks.items s.block.slots s.cap in
    omega (arith, c.self.invariant.0.written.many, s.marks.ok.0)

-- there is one value
same_value : (x y : Cell) → Some x ≡ Some y → x ≡ y
same_value x y e = cc e

pub returns-then-index-clause-cells : goal.returns-then-index-clause-cells
returns-then-index-clause-cells g c =
    let s = c.self.inside in
    let i = c.args.i in
    let long : length c.args.self.now.list ≡ s.cap = ap (λ (l : Laid). length l.list) (sym c.self.view_is) ∙ values_len s.marks.items s.block.slots s.cap in
    let read = get_or_read s.marks.items i c.index.result.now (omega (arith, c.self.invariant.0.written.many)) c.index.ensures 0 in
    let is : slice_index s.marks.items i ≡ 255 = omega (arith, read, c.if-index.true) in
    let wrote = c.write_place.ensures in
    let same = same_value _ _ (sym wrote.1 ∙ place_holds c.self.invariant.0.written i (omega arith) is) ∙ ap (λ (l : Laid). cell_at l.list i) c.self.view_is in
    let list = moved_values c.self.invariant.0.written i (omega arith) is (moved wrote.0 c.args.at)
    ∙ (ap (λ (l : Laid). set l.list i (moved wrote.0 c.args.at)) c.self.view_is ∙ ap (λ (x : Cell). set c.args.self.now.list i (moved x c.args.at)) same) in
    ap (λ (b : Block). laid s.marks.items b.base b.slots (is_some s.right) s.cap) wrote.2 ∙ (λ j. record { list = list j; spot = (c.self.view_is j).spot })

pub returns-then-mark-clause-cells : goal.returns-then-mark-clause-cells
returns-then-mark-clause-cells g c =
    let s = c.self.inside in
    let i = c.args.i in
    let long : length c.args.self.now.list ≡ s.cap = ap (λ (l : Laid). length l.list) (sym c.self.view_is) ∙ values_len s.marks.items s.block.slots s.cap in
    let read = get_or_read s.marks.items i c.index.result.now (omega (arith, c.self.invariant.0.written.many)) c.index.ensures 0 in
    let blank : cell_at c.args.self.now.list i ≡ unused_cell (noted_place s.cap (slice_index s.marks.items i)) =
    ap (λ (l : Laid). cell_at l.list i) (sym c.self.view_is) ∙ place_blank c.self.invariant.0.written i (omega arith)
    (λ e. absurd (omega (arith, read, e, c.if-index.false))) in
    c.put.ensures.cells ∙ ap (λ (x : Cell). (let l : Laid = record c.args.self.now { list = set c.args.self.now.list i x } in l))
    (c.unused.ensures ∙ ap (λ (x : Cell). moved x c.args.at) (sym blank))

pub returns-clause-cells : goal.returns-clause-cells
returns-clause-cells g c =
    let s = c.self.inside in
    let i = c.args.i in
    let long : length c.args.self.now.list ≡ s.cap = ap (λ (l : Laid). length l.list) (sym c.self.view_is) ∙ values_len s.marks.items s.block.slots s.cap in
    let read = get_or_read s.marks.items i c.index.result.now (omega (arith, c.self.invariant.0.written.many)) c.index.ensures 0 in
    let blank : cell_at c.args.self.now.list i ≡ unused_cell (noted_place s.cap (slice_index s.marks.items i)) =
    ap (λ (l : Laid). cell_at l.list i) (sym c.self.view_is) ∙ place_blank c.self.invariant.0.written i (omega arith)
    (λ e. absurd (omega (arith, read, e, c.if-index.false))) in
    let less : c.mark_of_place-mark.result < 255 = omega (arith, c.if-mark.false) in
    let list =
    noted_values c.self.invariant.0.written i (omega arith) (λ e. absurd (omega (arith, read, e, c.if-index.false))) c.mark_of_place-mark.result less
    ∙ (ap (λ (l : Laid). set l.list i (unused_cell (noted_place s.cap c.mark_of_place-mark.result))) c.self.view_is
    ∙ (ap (λ place. set c.args.self.now.list i (unused_cell place)) (c.mark_of_place-mark.ensures.says less) ∙ ap (set c.args.self.now.list i)
    (ap (λ (x : Cell). moved x c.args.at) (sym blank)))) in
    λ j. record { list = list j; spot = (c.self.view_is j).spot }
