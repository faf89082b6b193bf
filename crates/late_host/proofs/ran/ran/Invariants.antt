use Rattle.std.proofs.Common.{◌≡◌, drop}
use Rattle.late_host.specs.Ran.{ran_in}
use Rattle.late_host.proofs.ran.ran.Given as goal

abbrev pub invariant-loop-i : goal.invariant-loop-i
invariant-loop-i l = ran_in (drop l.i l.host.marks) ≡ ran_in l.host.marks
