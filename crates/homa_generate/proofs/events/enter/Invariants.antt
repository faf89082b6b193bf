-- The packets up to here entered.
use Rattle.std.proofs.Common.{◌≡◌, drop, length}
use Rattle.homa_plain.specs.World.{World}
use Rattle.generated_runs.specs.Rounds.{all_sent}
use Rattle.homa_generate.specs.GenerateWorld.{AreNew}
use Rattle.homa_generate.proofs.events.enter.Given as goal

abbrev pub invariant-loop-number : goal.invariant-loop-number
invariant-loop-number g l =
    let p = g.P.ReplayWorld in
    record {
      entered : (w : World) → p.stands l.fn.world w → AreNew (p.settings l.fn.world) w l.fn.first
          → all_sent (p.settings l.fn.world) l.fn.first (drop l.fn.first w.packets) l.fn.fabric.fabric ≡ all_sent (p.settings l.fn.world) l.number
          (drop l.number w.packets) l.fabric.fabric;
      life : l.fabric.life ≡ l.fn.fabric.life;
      hosts : length l.fabric.fabric.destinations ≡ length l.fn.fabric.fabric.destinations;
    }
