-- The packets of a tick, with their datagrams.
use Rattle.std.specs.Prelude.{List, map}
use Rattle.world_packets.specs.declared.tick.Tick.{Tick}
use Rattle.world_packets.specs.Blocks.{frames_of}
use Rattle.world_packets.specs.Kept.{KeptPacket, WholePacket}

-- what is kept of these packets: each is whole
abbrev pub kept_of : Tick → List KeptPacket
kept_of t = map (WholePacket t.tick) (frames_of t.block)
