use Rattle.std.proofs.Common.{◌≡◌, ◌^◌, ◌≤◌, ◌-◌, length, take}
use Rattle.check_words.specs.Fields.{times, number_at}
use Rattle.check_words.specs.FieldsLeft.{left, size}
use Rattle.check_reader.proofs.Times.{behind}
use Rattle.check_reader.proofs.bodies.read_numbers.Given as goal

-- the numbers so far were read, and the others are to be read behind them
abbrev pub invariant-loop-n : goal.invariant-loop-n
invariant-loop-n l = record {
  value : times (number_at (2 ^ 32)) (length l.fn.numbers) (left l.fn.words) ≡ behind (take l.n-index l.numbers)
      (times (number_at (2 ^ 32)) (length l.numbers - l.n-index) (left l.rest));
  shorter : size l.rest ≤ size l.fn.words;
}
