use Rattle.std.proofs.Common.{◌≡◌, ◌+◌}
use Rattle.simulate.proofs.tally.Tally.of.Given as goal

-- each call so far was counted once
abbrev pub invariant-loop-call : goal.invariant-loop-call
invariant-loop-call l = l.tally.done + l.tally.failed + l.tally.still_open ≡ l.call-index
