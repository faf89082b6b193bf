use Rattle.std.proofs.Common.{◌≡◌, false, take}
use Rattle.driven_host.specs.Asking.{has_whole}
use Rattle.driven_host.proofs.asking.tells_whole.Given as goal

abbrev pub invariant-loop-i : goal.invariant-loop-i
invariant-loop-i l = has_whole (take l.i l.host.marks) ≡ false
