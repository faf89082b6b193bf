-- The bytes before `from` are filled in.
use Rattle.std.proofs.Common.{◌-◌, ◌≤◌}
use Rattle.homa_in.specs.Filled.{IsFilled}
use Rattle.homa_in.proofs.pieces.put_missing.Given as goal

abbrev pub invariant-loop-from : goal.invariant-loop-from
invariant-loop-from l = record {
  low : l.offset ≤ l.from;
  high : l.from ≤ l.end;
  filled : IsFilled l.missing l.offset l.from l.bytes l.initial.scratch l.scratch;
}

abbrev pub decreases-loop-from : goal.decreases-loop-from
decreases-loop-from l = l.end - l.from
