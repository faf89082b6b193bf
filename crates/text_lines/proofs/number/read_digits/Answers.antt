use Rattle.std.proofs.Common.{arith, ap, ◌∙◌, ◌+◌, sym, drop}
use Rattle.homa_plain.specs.Numbers.{in_64_bits}
use Rattle.text_lines.proofs.Digits.{in_64_bits-small, in_64_bits-large, digits_value-digit, digits_value-end}
use Rattle.text_lines.proofs.number.read_digits.Goals as goal

pub returns-then-next-from : goal.returns-then-next-from
returns-then-next-from c =
    let word = c.args.word.now in
    let i = c.loop-c.c-index in
    let digit = sym c.is_ascii_digit.ensures.value ∙ c.if-not-is_ascii_digit.false in
    sym (ap in_64_bits (c.loop-c.invariant.value ∙ digits_value-digit word i c.loop-c.n c.loop-c-test.true digit)
    ∙ in_64_bits-large _ (drop (i + 1) word) (omega arith))

pub returns : goal.returns
returns c =
    sym (ap in_64_bits (c.loop-c.invariant.value ∙ digits_value-end c.args.word.now c.loop-c.c-index c.loop-c.n (omega arith))
    ∙ in_64_bits-small c.loop-c.n c.loop-c.invariant.fits)
