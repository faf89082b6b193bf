use Rattle.std.proofs.Common.{◌≡◌, ◌≤◌, ◌-◌, length}
use Rattle.check_words.specs.FieldsLeft.{left}
use Rattle.check_reader.specs.Bodies.{calls_in}
use Rattle.check_reader.proofs.Times.{calls_behind}
use Rattle.check_reader.proofs.bodies.read_calls.Given as goal

-- the calls so far were read, and the others are to be read behind them
abbrev pub invariant-loop-word : goal.invariant-loop-word
invariant-loop-word l = record {
  value : calls_in 4 (left l.fn.words) ≡ calls_behind l.more (calls_in (4 - length l.more) (left l.rest));
  few : length l.more ≤ 4;
}

abbrev pub decreases-loop-word : goal.decreases-loop-word
decreases-loop-word l = length (left l.rest)
