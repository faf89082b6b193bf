use Rattle.std.proofs.Common.{◌≡◌, length, ap, refl, arith}
use Rattle.plain_sets.specs.Ranges.{joined, width_of}
use Rattle.range_set.specs.Kept.{plain}
use Rattle.range_set.proofs.PlainRanges.{length-plain}
use Rattle.range_set.proofs.KeptRanges.{kept-joined, joined_wider}
use Rattle.range_set.proofs.kept.insert.Goals as goal

pub returns-then-len-most-clause-too_many : goal.returns-then-len-most-clause-too_many
returns-then-len-most-clause-too_many c =
    let made : plain c.join-joined.result.items ≡ joined c.args.a c.args.b (plain c.args.kept.now.items) = cc in
    (λ _. omega (arith, ap length made, length-plain c.join-joined.result.items), λ _. refl)

pub width-requires : goal.width-requires
width-requires c =
    let made : plain c.as_slice-4.result.now ≡ joined c.args.a c.args.b (plain c.args.kept.now.items) = cc in
    let same : c.as_slice-4.result.now ≡ c.join-joined.result.items = cc in
    kept-joined _ _ _ _ c.requires.rising c.requires.small c.requires.kept made (omega (arith, ap length same))

pub overflow_sub-result : goal.overflow_sub-result
overflow_sub-result c =
    let made : plain c.as_slice-4.result.now ≡ joined c.args.a c.args.b (plain c.args.kept.now.items) = cc in
    let old : c.as_slice-2.result.now ≡ c.args.kept.now.items = cc in
    omega (
      arith,
      c.width-before.ensures,
      ap (λ rs. width_of (plain rs)) old,
      c.width.ensures,
      ap width_of made,
      joined_wider c.args.kept.now.items c.args.a c.args.b c.requires.rising c.requires.kept,
    )

pub returns-clause-added : goal.returns-clause-added
returns-clause-added c =
    let made : plain c.replace.new.kept.items ≡ joined c.args.a c.args.b (plain c.args.kept.now.items) = cc in
    let same : c.replace.new.kept.items ≡ c.join-joined.result.items = cc in
    let new : c.as_slice-4.result.now ≡ c.replace.new.kept.items = cc in
    let old : c.as_slice-2.result.now ≡ c.args.kept.now.items = cc in
    record {
      list = made;
      wider = omega (
        arith,
        c.width-before.ensures,
        ap (λ rs. width_of (plain rs)) old,
        c.width.ensures,
        ap (λ rs. width_of (plain rs)) new,
        ap width_of made,
        joined_wider c.args.kept.now.items c.args.a c.args.b c.requires.rising c.requires.kept,
      );
      few = omega (arith, length-plain c.replace.new.kept.items, ap length same);
    }

pub returns-clause-too_many : goal.returns-clause-too_many
returns-clause-too_many c =
    let made : plain c.join-joined.result.items ≡ joined c.args.a c.args.b (plain c.args.kept.now.items) = cc in
    (λ e. cc, λ h. absurd (omega (arith, ap length made, length-plain c.join-joined.result.items)))

pub returns-clause-kept_again : goal.returns-clause-kept_again
returns-clause-kept_again c =
    let made : plain c.replace.new.kept.items ≡ joined c.args.a c.args.b (plain c.args.kept.now.items) = cc in
    let same : c.replace.new.kept.items ≡ c.join-joined.result.items = cc in
    kept-joined _ _ _ _ c.requires.rising c.requires.small c.requires.kept made (omega (arith, ap length same))
