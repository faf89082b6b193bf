use Rattle.std.proofs.Common.{◌≡◌, take}
use Rattle.std.specs.List.{fold}
use Rattle.driven_host.specs.Counts.{with_frame}
use Rattle.driven_host.proofs.counts.HostCounts.add_frames.Given as goal

abbrev pub invariant-loop-i : goal.invariant-loop-i
invariant-loop-i l = l.self ≡ fold with_frame l.fn.self (take l.i l.out)
