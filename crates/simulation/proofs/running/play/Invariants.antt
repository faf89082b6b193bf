-- So many turns led on.
use Rattle.std.proofs.Common.{◌≡◌, ◌≤◌, ◌+◌}
use Rattle.homa_plain.specs.World.{World}
use Rattle.simulation.specs.Runs.{at, HasRun}
use Rattle.simulation.proofs.running.play.Given as goal

abbrev pub invariant-loop-turns : goal.invariant-loop-turns
invariant-loop-turns g l =
    let p = g.P.ReplayWorld in
    let n = g.N.HostNetwork in
    let k = g.K.Sink in
    record {
      ran : (w : World) → p.stands l.fn.world w
          → HasRun n.gives n.heeds n.leaves (p.settings l.fn.world) l.fn.setup.service l.fn.setup.prints w (at l.fn.network 0 (k.taken l.fn.sink))
          (at l.network l.events (k.taken l.sink)) (p.stands l.world) (p.allows l.fn.world) (p.allows l.world);
      settings : p.settings l.world ≡ p.settings l.fn.world;
      applied : p.events l.world ≤ p.events l.fn.world + l.turns;
      few : l.events ≤ l.turns;
      same : k.is_same l.fn.sink l.sink;
    }
