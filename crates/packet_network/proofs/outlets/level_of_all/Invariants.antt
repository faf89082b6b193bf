-- What waited and passed at those that were gone through.
use Rattle.std.proofs.Common.{◌≡◌, take}
use Rattle.packet_network.specs.Measures.{level_of}
use Rattle.packet_network.proofs.outlets.level_of_all.Given as goal

abbrev pub invariant-loop-outlet : goal.invariant-loop-outlet
invariant-loop-outlet l = l.sum ≡ level_of l.now l.level (take l.outlet-index l.outlets)
