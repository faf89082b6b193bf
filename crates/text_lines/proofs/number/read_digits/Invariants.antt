use Rattle.std.proofs.Common.{◌≡◌, ◌<◌, ◌^◌, drop}
use Rattle.homa_plain.specs.Numbers.{digits_value}
use Rattle.text_lines.proofs.number.read_digits.Given as goal

-- the value is that of the digits so far, with those that are left behind them
abbrev pub invariant-loop-c : goal.invariant-loop-c
invariant-loop-c l = record {
  value : digits_value 0 l.word ≡ digits_value l.n (drop l.c-index l.word);
  fits : l.n < 2 ^ 64;
}
