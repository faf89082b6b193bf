-- No byte is missing before the range or behind it.
use Rattle.std.proofs.Common.{◌≡◌, Bool, true, false, not, refl, sym, ap, ◌∙◌, arith}
use Rattle.std.proofs.lemmas.Bool.{true≢false}
use Rattle.homa_in.proofs.GapLaws.{none_before, none_behind, none_left_over}
use Rattle.homa_in.proofs.pieces.has_the_last.Goals as goal

not_false : (b : Bool) → not b ≡ false → b ≡ true
not_false true e = refl
not_false false e = absurd (true≢false e)

pub returns-then-is_empty : goal.returns-then-is_empty
returns-then-is_empty c = (λ t. absurd (true≢false (sym t)), λ h. absurd (h.0 (c.is_empty.ensures.0 c.if-is_empty.true)))

pub returns-then-is_some : goal.returns-then-is_some
returns-then-is_some c = (
  λ t. absurd (true≢false (sym t)),
  λ h. absurd (true≢false
      (sym (sym c.is_some.ensures ∙ c.if-is_some.true) ∙ c.first_below.ensures.none.1 (none_before c.args.missing.now c.args.from c.args.to h.1))),
)

pub returns-then-to-len : goal.returns-then-to-len
returns-then-to-len c = (
  λ t. (
    λ e. true≢false (sym (c.is_empty.ensures.1 e) ∙ c.if-is_empty.false),
    none_left_over c.args.missing.now c.args.from c.args.to c.args.len c.requires.below
        (c.first_below.ensures.none.0 (sym c.is_some.ensures ∙ c.if-is_some.false)) (λ x l h. absurd (omega (arith, l, h, c.if-to-len.true))),
  ),
  λ h. refl,
)

pub returns : goal.returns
returns c = (
  λ t. (
    λ e. true≢false (sym (c.is_empty.ensures.1 e) ∙ c.if-is_empty.false),
    none_left_over c.args.missing.now c.args.from c.args.to c.args.len c.requires.below
        (c.first_below.ensures.none.0 (sym c.is_some.ensures ∙ c.if-is_some.false))
        (c.first_in.ensures.none.0 (c.is_none.ensures ∙ ap not t)),
  ),
  λ h. not_false c.is_none.result (sym c.is_none.ensures ∙ c.first_in.ensures.none.1 (none_behind c.args.missing.now c.args.from c.args.to c.args.len h.1)),
)
