-- What is kept of packets that are too old.
use Rattle.std.specs.Prelude.{ℕ, List, ◌++◌, map}
use Rattle.std.specs.List.{flat_map}
use Rattle.world_packets.specs.declared.late.Lates.{Lates}
use Rattle.world_packets.specs.declared.past.Old.{Old}
use Rattle.world_packets.specs.declared.past.Past.{Past}
use Rattle.world_packets.specs.declared.past.Past.TheVariants.{Late, Stale}
use Rattle.world_packets.specs.Kept.{KeptPacket, StalePacket}
use Rattle.world_packets.specs.Lates.{late_of}

-- what is kept of each packet that is late for good
abbrev pub lates_kept : Lates → List KeptPacket
lates_kept l = flat_map late_of l.full.items ++ late_of l.latest

-- what is kept of each packet that is certainly stale
abbrev pub olds_kept : List Old → List KeptPacket
olds_kept olds = map (λ (o : Old). StalePacket o.to o.at) olds

-- what is kept of each packet that is too old, with either version
abbrev pub past_kept : Past → List KeptPacket
past_kept (Late lates) = lates_kept lates
past_kept (Stale olds) = olds_kept olds.items

-- the version of the wire format in which packets become too old in this way
abbrev pub wire_of : Past → ℕ
wire_of (Late lates) = 1
wire_of (Stale olds) = 2
