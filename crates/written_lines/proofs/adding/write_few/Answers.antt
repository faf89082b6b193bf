use Rattle.std.proofs.Common.{ℕ, ◌∙◌, ap, arith, slice_index}
use Rattle.std.proofs.lemmas.Nat.{and_mask}
use Rattle.hex.specs.Hex.{lower_digits}
use Rattle.hex.proofs.Pairs.{encode_step, encode_done}
use Rattle.written_lines.proofs.adding.write_few.Goals as goal

pub digits-preserved : goal.digits-preserved
digits-preserved c =
    let byte : ℕ = slice_index c.args.bytes.now c.digits.i in
    encode_step lower_digits c.args.bytes.now c.digits.out c.digits.i _ _ (omega arith) (omega arith) c.digit.ensures
    (c.digit-in-digits.ensures ∙ ap (λ (k : ℕ). slice_index lower_digits k) (and_mask byte 4)) c.digits.invariant

pub returns : goal.returns
returns c = encode_done lower_digits c.args.bytes.now c.digits.out c.digits.i (omega arith) (omega arith) c.digits.invariant
