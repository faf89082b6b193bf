use Rattle.std.proofs.Common.{ℕ, ◌∙◌, ap, arith, slice_index}
use Rattle.std.proofs.lemmas.Nat.{and_mask}
use Rattle.hex.specs.Hex.{lower_digits}
use Rattle.written_lines.specs.Turns.{high_digit, low_digit}
use Rattle.written_lines.proofs.Parts.{mapped_more, mapped_all}
use Rattle.written_lines.proofs.adding.split_digits.Goals as goal

pub bytes-preserved : goal.bytes-preserved
bytes-preserved c =
    let byte : ℕ = slice_index c.args.bytes.now c.bytes.i in
    record {
      high = mapped_more high_digit c.args.bytes.now c.bytes.high c.bytes.i _ (omega arith) (omega arith) c.digit.ensures c.bytes.invariant.high;
      low = mapped_more low_digit c.args.bytes.now c.bytes.low c.bytes.i _ (omega arith) (omega arith)
          (c.digit-in-bytes.ensures ∙ ap (λ (k : ℕ). slice_index lower_digits k) (and_mask byte 4)) c.bytes.invariant.low;
    }

pub returns-clause-high : goal.returns-clause-high
returns-clause-high c = mapped_all high_digit c.args.bytes.now c.bytes.high c.bytes.i (omega arith) (omega arith) c.bytes.invariant.high

pub returns-clause-low : goal.returns-clause-low
returns-clause-low c = mapped_all low_digit c.args.bytes.now c.bytes.low c.bytes.i (omega arith) (omega arith) c.bytes.invariant.low
