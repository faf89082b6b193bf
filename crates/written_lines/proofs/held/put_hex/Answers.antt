use Rattle.std.proofs.Common.{arith}
use Rattle.std.proofs.lemmas.List.{take_all}
use Rattle.written_lines.proofs.Putting.{none_put, puts_on, failed_on}
use Rattle.written_lines.proofs.Texts.{encode_lower-nil, encode_lower-more, encode_lower-all, part_length}
use Rattle.written_lines.proofs.held.put_hex.Goals as goal

pub loop-done-init : goal.loop-done-init
loop-done-init g c = record { so_far = rw encode_lower-nil (none_put (g.met.K.Sink.same_self _)); within = omega arith; room = omega arith }

pub returns-in_err-put_digits : goal.returns-in_err-put_digits
returns-in_err-put_digits g c =
    failed_on g.met.K.Sink.same_on _ _ _ _ _ c.from_residual.ensures.0 c.loop-done.invariant.so_far (rw part_length at c.in_err-put_digits.ensures.put)
    (encode_lower-all c.args.bytes.now c.loop-done.done c.min-n.result)

pub loop-done-preserved : goal.loop-done-preserved
loop-done-preserved g c = record {
  so_far = puts_on g.met.K.Sink.same_on _ _ _ c.loop-done.invariant.so_far (rw part_length at c.in_ok-put_digits.ensures.put)
      (encode_lower-more c.args.bytes.now c.loop-done.done c.min-n.result);
  within = omega arith;
  room = omega (arith, c.in_ok-put_digits.ensures.room, c.loop-done.invariant.room);
}

pub returns : goal.returns
returns g c = rw (take_all c.loop-done.done c.args.bytes.now (omega arith)) at c.loop-done.invariant.so_far
