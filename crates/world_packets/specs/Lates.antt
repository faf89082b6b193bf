-- Packets of a few ticks, as a whole.
use Rattle.std.specs.Prelude.{ℕ, ◌+◌, ◌&&◌, nat_le, nat_lt, Bool, List, length}
use Rattle.world_packets.specs.declared.late_ticks.LateTicks.{LateTicks}
use Rattle.world_packets.specs.Kept.{KeptPacket}
use Rattle.world_packets.specs.Later.{last_tick, late_kept}

-- what is kept of these packets: each is late for good
abbrev pub late_of : LateTicks → List KeptPacket
late_of t = late_kept t.tick t.many t.later.items

-- so many packets of a tick fit in behind them: it isn't below their last tick nor more than 65,535 above it, they are at most 65,535, and
-- fewer than 64 counts of packets stand behind the first one
abbrev pub fits_in : LateTicks → ℕ → ℕ → Bool
fits_in t tick count =
    let last = last_tick t.tick t.later.items in
    nat_le last tick && nat_le tick (last + 65535) && nat_le count 65535 && nat_lt (length t.later.items) 64
