use Rattle.std.proofs.Common.{◌+◌, ◌-◌, ◌*◌, ◌∙◌, ap, arith, sym}
use Rattle.std.proofs.lemmas.List.{take_all}
use Rattle.std.proofs.lemmas.Slice.{take-put_mid}
use Rattle.hex.specs.Hex.{encode_lower}
use Rattle.written_lines.proofs.Parts.{part_over}
use Rattle.written_lines.proofs.Texts.{encode_lower-nil, part_length}
use Rattle.written_lines.proofs.adding.write_digits.Goals as goal

pub loop-done-init : goal.loop-done-init
loop-done-init c = record { so_far = sym encode_lower-nil; within = omega arith }

pub loop-done-preserved : goal.loop-done-preserved
loop-done-preserved c =
    let bytes = c.args.bytes.now in
    let from = c.min-from.result in
    let digits = c.write_part.new.out in
    record {
      so_far =
          take-put_mid (2 * from) (2 * from + 128 - 2 * from) c.loop-done.out digits (2 * (from + 64)) (omega arith) (omega arith)
          ∙ part_over bytes c.loop-done.out digits c.loop-done.done from 64 c.loop-done.invariant.within (omega arith)
          (rw part_length at c.write_part.ensures) c.loop-done.invariant.so_far;
      within = omega arith;
    }

pub returns : goal.returns
returns c =
    let done = c.loop-done.done in
    sym (take_all (2 * done) c.loop-done.out (omega arith))
    ∙ (c.loop-done.invariant.so_far ∙ ap encode_lower (take_all done c.args.bytes.now (omega arith)))
