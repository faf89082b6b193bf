-- The hosts below this one had their turns.
use Rattle.std.proofs.Common.{true, ◌≡◌, ◌≤◌, ◌+◌}
use Rattle.homa_plain.specs.World.{World}
use Rattle.homa_plain.specs.Replay.{turns_of}
use Rattle.homa_generate.specs.Carried.{IsCarried}
use Rattle.homa_generate.proofs.events.turns.Given as goal

abbrev pub invariant-loop-host : goal.invariant-loop-host
invariant-loop-host g l =
    let p = g.P.ReplayWorld in
    record {
      carried : (w : World) → p.stands l.fn.world w → IsCarried (p.settings l.fn.world) w (turns_of 0 l.host) (p.stands l.world) l.fn.counts l.counts
          (p.allows l.fn.world) (p.allows l.world) true;
      settings : p.settings l.world ≡ p.settings l.fn.world;
      counted : p.events l.world ≤ p.events l.fn.world + l.host;
    }
