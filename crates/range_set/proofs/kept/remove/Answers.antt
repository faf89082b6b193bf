use Rattle.std.proofs.Common.{◌≡◌, length, ap, refl, arith}
use Rattle.plain_sets.specs.Ranges.{parted, width_of}
use Rattle.range_set.specs.Kept.{plain}
use Rattle.range_set.proofs.PlainRanges.{length-plain}
use Rattle.range_set.proofs.KeptRanges.{kept-parted, room_parted, parted_narrower}
use Rattle.range_set.proofs.kept.remove.Goals as goal

pub part-requires-clause-few : goal.part-requires-clause-few
part-requires-clause-few c = rw c.as_slice.ensures.value (room_parted _ _ _ c.requires.rising c.requires.kept)

pub returns-then-len-gt64-clause-too_many : goal.returns-then-len-gt64-clause-too_many
returns-then-len-gt64-clause-too_many c =
    let made : plain c.part.new.out.items ≡ parted c.args.a c.args.b (plain c.args.kept.now.items) = cc in
    (λ _. omega (arith, ap length made, length-plain c.part.new.out.items), λ _. refl)

pub width-requires : goal.width-requires
width-requires c =
    let made : plain c.as_slice-4.result.now ≡ parted c.args.a c.args.b (plain c.args.kept.now.items) = cc in
    let same : c.as_slice-4.result.now ≡ c.part.new.out.items = cc in
    kept-parted _ _ _ _ c.requires.rising c.requires.kept made (omega (arith, ap length same))

pub overflow_sub-result : goal.overflow_sub-result
overflow_sub-result c =
    let made : plain c.as_slice-4.result.now ≡ parted c.args.a c.args.b (plain c.args.kept.now.items) = cc in
    let old : c.as_slice-2.result.now ≡ c.args.kept.now.items = cc in
    omega (
      arith,
      c.width-before.ensures,
      ap (λ rs. width_of (plain rs)) old,
      c.width.ensures,
      ap width_of made,
      parted_narrower c.args.kept.now.items c.args.a c.args.b c.requires.rising c.requires.kept,
    )

pub returns-clause-removed : goal.returns-clause-removed
returns-clause-removed c =
    let made : plain c.replace.new.kept.items ≡ parted c.args.a c.args.b (plain c.args.kept.now.items) = cc in
    let new : c.as_slice-4.result.now ≡ c.replace.new.kept.items = cc in
    let old : c.as_slice-2.result.now ≡ c.args.kept.now.items = cc in
    record {
      list = made;
      narrower = omega (
        arith,
        c.width-before.ensures,
        ap (λ rs. width_of (plain rs)) old,
        c.width.ensures,
        ap (λ rs. width_of (plain rs)) new,
        ap width_of made,
        parted_narrower c.args.kept.now.items c.args.a c.args.b c.requires.rising c.requires.kept,
      );
    }

pub returns-clause-too_many : goal.returns-clause-too_many
returns-clause-too_many c =
    let made : plain c.part.new.out.items ≡ parted c.args.a c.args.b (plain c.args.kept.now.items) = cc in
    (λ e. cc, λ h. absurd (omega (arith, ap length made, length-plain c.part.new.out.items)))

pub returns-clause-kept_again : goal.returns-clause-kept_again
returns-clause-kept_again c =
    let made : plain c.replace.new.kept.items ≡ parted c.args.a c.args.b (plain c.args.kept.now.items) = cc in
    let same : c.replace.new.kept.items ≡ c.part.new.out.items = cc in
    kept-parted _ _ _ _ c.requires.rising c.requires.kept made (omega (arith, ap length same))
