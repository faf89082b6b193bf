-- All packets of a world.
use Rattle.std.specs.Prelude.{◌<◌, ℕ, ◌+◌, ◌*◌, ◌^◌, List, ◌++◌, length, map}
use Rattle.std.specs.List.{flat_map}
use Rattle.homa_plain.specs.declared.settings.Settings.{Settings}
use Rattle.world_packets.specs.declared.packets.Packets.{Packets}
use Rattle.world_packets.specs.Blocks.{frames_of, size_of, HasRoom}
use Rattle.world_packets.specs.Kept.{KeptPacket, WholePacket}
use Rattle.world_packets.specs.Ticks.{kept_of}
use Rattle.world_packets.specs.Past.{past_kept}

-- what is kept of each, by its number
abbrev pub kept_all : Packets → List KeptPacket
kept_all p = past_kept p.past ++ flat_map kept_of p.ticks.items ++ map (WholePacket p.tick) (frames_of p.front)

-- the settings of the world
abbrev pub settings_of : Packets → Settings
settings_of p = p.settings

-- the tick in which the next ones are sent
abbrev pub open_tick : Packets → ℕ
open_tick p = p.tick

-- the number of the first packet of the block in which the next ones are put
abbrev pub open_number : Packets → ℕ
open_number p = p.first

-- no memory is taken for so many more
pub record HasRoomFor (p : Packets) (n : ℕ) : Type 0 where
  pub room : HasRoom p.front n
  pub small : size_of p.front + n * 1444 < 2 ^ 32
  pub few : length (kept_all p) + n < 2 ^ 64
