use Rattle.std.proofs.Common.{arith}
use Rattle.homa_text.proofs.Calls.{ten_digits}
use Rattle.homa_text.proofs.frequent_lines.add_call.Goals as goal

pub returns-clause-len : goal.returns-clause-len
returns-clause-len g c =
    let first = ten_digits c.from.result (omega (arith, c.from.ensures, c.ranges.inc.fits)) in
    let second = ten_digits c.from-2.result (omega (arith, c.from-2.ensures, c.ranges.seq.fits)) in
    omega (arith, first, c.add_number.ensures.len, c.add.ensures.len, second, c.add_number-2.ensures.len)
