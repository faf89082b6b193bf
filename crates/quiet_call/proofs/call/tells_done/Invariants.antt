use Rattle.std.proofs.Common.{◌≡◌, false, take}
use Rattle.homa_plain.specs.Quiet.{has_done}
use Rattle.host_view.specs.Marks.{shown_entries}
use Rattle.quiet_call.proofs.call.tells_done.Given as goal

abbrev pub invariant-loop-i : goal.invariant-loop-i
invariant-loop-i l = has_done (take l.i (shown_entries l.host l.outbox l.scratch)) ≡ false
