use Rattle.std.proofs.Common.{◌≡◌, map, take}
use Rattle.written_lines.specs.Turns.{high_digit, low_digit}
use Rattle.written_lines.proofs.adding.split_digits.Given as goal

-- the digits of the bytes so far
abbrev pub invariant-bytes : goal.invariant-bytes
invariant-bytes l = record {
  high : take l.i l.high ≡ map high_digit (take l.i l.bytes);
  low : take l.i l.low ≡ map low_digit (take l.i l.bytes);
}
