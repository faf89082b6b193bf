use Rattle.std.proofs.Common.{◌≡◌, ◌∙◌, sym, replicate, rules}
use Rattle.place_heap.specs.Cells.{values_of}
use Rattle.place_heap.proofs.Values.{new_values, head_of}
use Rattle.place_heap.proofs.cells.Cells.part.Goals as goal

pub returns-clause-cells : goal.returns-clause-cells
returns-clause-cells c =
    let cap = c.args.cap in
    let marks : c.in_ok-marks.marks.items ≡ replicate cap 254 = c.in_ok-marks.ensures.items_if_clones_equal (λ y clone. search rules) in
    let slots = head_of (sym c.split-block.ensures.1 ∙ c.requires.strips.1) in
    (λ j. values_of (marks j) (slots j) cap) ∙ new_values cap c.requires.base.3
