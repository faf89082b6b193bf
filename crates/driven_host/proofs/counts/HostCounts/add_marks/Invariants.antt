use Rattle.std.proofs.Common.{◌≡◌, take}
use Rattle.std.specs.List.{fold}
use Rattle.driven_host.specs.Counts.{with_mark}
use Rattle.driven_host.proofs.counts.HostCounts.add_marks.Given as goal

abbrev pub invariant-loop-i : goal.invariant-loop-i
invariant-loop-i l = l.self ≡ fold with_mark l.fn.self (take l.i l.host.marks)
