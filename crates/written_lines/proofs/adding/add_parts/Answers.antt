use Rattle.std.proofs.Common.{arith, sym}
use Rattle.std.proofs.lemmas.List.{append-nil}
use Rattle.written_lines.proofs.Texts.{part_on, encode_lower-nil, encode_lower-more, part_length}
use Rattle.written_lines.proofs.adding.add_parts.Goals as goal

pub loop-done-init : goal.loop-done-init
loop-done-init g c = record { so_far = rw encode_lower-nil (sym (append-nil _)); within = omega arith; len = omega arith }

pub loop-done-preserved : goal.loop-done-preserved
loop-done-preserved g c =
    let more = rw part_length at c.add_chunk.ensures.items in
    record {
      so_far = part_on _ _ _ _ _ _ c.loop-done.invariant.so_far more (encode_lower-more c.args.bytes.now c.loop-done.done c.min-n.result);
      within = omega arith;
      len = omega (arith, c.add_chunk.ensures.len, c.loop-done.invariant.len, part_length c.loop-done.done c.min-n.result);
    }
