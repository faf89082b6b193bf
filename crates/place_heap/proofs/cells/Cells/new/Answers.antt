use Rattle.std.proofs.Common.{◌≡◌, ◌<◌, ◌≤◌, ◌∙◌, Some, ap, sym, subst, replicate, rules, arith}
use Rattle.place_heap.specs.declared.cells.Base.{Base}
use Rattle.place_heap.specs.declared.cells.Pile.{Pile}
use Rattle.place_heap.specs.Cells.{values_of, after, IsRight}
use Rattle.place_heap.proofs.Values.{new_values, new_written, head_of, tail_of}
use Rattle.place_heap.proofs.cells.Cells.new.Goals as goal

-- there is one right
same_right : (p q : Pile) → Some p ≡ Some q → p ≡ q
same_right p q e = cc e

pub invariant_of-result : goal.invariant_of-result
invariant_of-result c =
    let cap = c.args.cap in let made = c.in_ok-base in let base : Base = made.base in let split = c.split-block.ensures in
    let marks : c.in_ok-marks.marks.items ≡ replicate cap 254 = c.in_ok-marks.ensures.items_if_clones_equal (λ y clone. search rules) in
    let pile = made.ensures.2 in
    let strips = sym split.1 ∙ ap (λ (p : Pile). p.strips) pile in
    let near : base.first < 32 = omega (arith, made.ensures.0) in
    let narrow : base.stride ≤ 32 = omega (arith, made.ensures.1) in (
      record {
        lies = split.0 ∙ ap (λ (p : Pile). p.base) pile;
        near = record { first = near; stride = narrow };
        written = rw (marks, head_of strips) (new_written cap c.requires);
      },
      λ p is. subst (λ (q : Pile). IsRight base cap q.base q.len q.strips) (same_right _ _ is)
          (record {
            next_is = ap (λ (q : Pile). q.base) split.2 ∙ ap (λ (q : Pile). after q.base) pile;
            first = made.ensures.0;
            alone = made.ensures.1;
            len = ap (λ (q : Pile). q.len) split.2 ∙ ap (λ (q : Pile). q.len) pile;
            empty = tail_of strips;
          }),
    )

pub returns : goal.returns
returns c =
    let cap = c.args.cap in
    let marks : c.in_ok-marks.marks.items ≡ replicate cap 254 = c.in_ok-marks.ensures.items_if_clones_equal (λ y clone. search rules) in
    let strips = sym c.split-block.ensures.1 ∙ ap (λ (p : Pile). p.strips) c.in_ok-base.ensures.2 in
    (λ j. values_of (marks j) (head_of strips j) cap) ∙ new_values cap c.requires
