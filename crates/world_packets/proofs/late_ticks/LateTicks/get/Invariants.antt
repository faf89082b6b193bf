use Rattle.std.proofs.Common.{◌≡◌, drop}
use Rattle.world_packets.specs.Later.{last_tick}
use Rattle.world_packets.specs.Lates.{late_of}
use Rattle.world_packets.proofs.LateLaws.{IsLeft}
use Rattle.world_packets.proofs.late_ticks.LateTicks.get.Given as goal

-- so many of the packets behind this tick stand before it
abbrev pub invariant-loop-later : goal.invariant-loop-later
invariant-loop-later l = record {
  left : IsLeft (late_of l.self) l.i l.tick (drop l.later-index l.ticks) l.left;
  last : last_tick l.tick (drop l.later-index l.ticks) ≡ l.self.last;
}
