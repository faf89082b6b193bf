use Rattle.std.proofs.Common.{◌≡◌, ◌≤◌, ◌+◌}
use Rattle.homa_plain.specs.World.{World}
use Rattle.homa_plain.specs.Replay.{turns_of}
use Rattle.homa_replay.specs.Lines.{ArePlayed}
use Rattle.homa_replay.proofs.lines.play_turns.Given as goal

-- the hosts below this one had their turns
abbrev pub invariant-loop-host : goal.invariant-loop-host
invariant-loop-host g l =
    let p = g.P.ReplayWorld in
    let k = g.K.Sink in
    record {
      played : (w : World) → p.stands l.fn.world w → ArePlayed (p.settings l.fn.world) w (turns_of 0 l.host) (p.stands l.world) (k.taken l.fn.sink)
          (k.taken l.sink) (p.allows l.fn.world) (p.allows l.world);
      settings : p.settings l.world ≡ p.settings l.fn.world;
      counted : p.events l.world ≤ p.events l.fn.world + l.host;
      quiet : k.faults l.sink ≡ k.faults l.fn.sink;
      same : k.is_same l.fn.sink l.sink;
    }
