use Rattle.std.proofs.Common.{◌≡◌, ◌++◌, take}
use Rattle.quiet_call.proofs.frames.keep.Given as goal

abbrev pub invariant-loop-i : goal.invariant-loop-i
invariant-loop-i l = l.under_way.items ≡ l.fn.under_way.items ++ take l.i l.outbox
