use Rattle.std.proofs.Common.{◌≡◌, ◌≤◌, ◌+◌, ◌*◌}
use Rattle.homa_plain.specs.World.{World}
use Rattle.homa_plain.specs.Replay.{ticks}
use Rattle.homa_replay.specs.Lines.{ArePlayed}
use Rattle.homa_replay.proofs.lines.play_ticks.Given as goal

-- so many ticks passed
abbrev pub invariant-loop-tick : goal.invariant-loop-tick
invariant-loop-tick g l =
    let p = g.P.ReplayWorld in
    let k = g.K.Sink in
    record {
      played : (w : World) → p.stands l.fn.world w → ArePlayed (p.settings l.fn.world) w (ticks l.hosts l.tick) (p.stands l.world) (k.taken l.fn.sink)
          (k.taken l.sink) (p.allows l.fn.world) (p.allows l.world);
      settings : p.settings l.world ≡ p.settings l.fn.world;
      counted : p.events l.world ≤ p.events l.fn.world + l.tick * (l.hosts + 1);
      quiet : k.faults l.sink ≡ k.faults l.fn.sink;
      same : k.is_same l.fn.sink l.sink;
    }
