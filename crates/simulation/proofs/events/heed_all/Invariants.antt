-- The entries up to here were heeded.
use Rattle.std.proofs.Common.{take}
use Rattle.homa_plain.specs.World.{World}
use Rattle.simulation.specs.Turns.{AreHeeded}
use Rattle.simulation.proofs.events.heed_all.Given as goal

abbrev pub invariant-loop-i : goal.invariant-loop-i
invariant-loop-i g l =
    let p = g.P.ReplayWorld in
    (w : World) → p.stands l.fn.world w
    → AreHeeded g.N.HostNetwork.heeds (p.settings l.fn.world) w (take l.i (p.told l.fn.world)) l.fn.network l.network
