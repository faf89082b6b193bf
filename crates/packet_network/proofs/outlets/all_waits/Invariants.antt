-- The waits of those that were gone through.
use Rattle.std.proofs.Common.{◌≡◌, take}
use Rattle.packet_network.specs.Measures.{waits_of}
use Rattle.packet_network.proofs.outlets.all_waits.Given as goal

abbrev pub invariant-loop-outlet : goal.invariant-loop-outlet
invariant-loop-outlet l = l.waits ≡ waits_of l.now (take l.outlet-index l.outlets)
