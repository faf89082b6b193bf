-- All packets that are late for good.
use Rattle.std.proofs.Common.{◌≡◌, ◌+◌, length, length-append, arith}
use Rattle.std.specs.List.{flat_map}
use Rattle.world_packets.specs.declared.late_ticks.LateTicks.{LateTicks}
use Rattle.world_packets.specs.declared.late.Lates.{Lates}
use Rattle.world_packets.specs.Lates.{late_of}
use Rattle.world_packets.specs.Past.{lates_kept}
use Rattle.world_packets.proofs.Parts.{firsts_end}

pub full_length : (l : Lates) → length (flat_map late_of l.full.items) ≡ l.latest.first
full_length l = omega (arith, firsts_end (λ (t : LateTicks). t.first) late_of 0 l.full.items l.latest.first l.firsts)

pub lates_length : (l : Lates) → length (lates_kept l) ≡ l.latest.first + length (late_of l.latest)
lates_length l = omega (arith, full_length l, length-append (flat_map late_of l.full.items) (late_of l.latest))
