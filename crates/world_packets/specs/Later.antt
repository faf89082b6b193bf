-- Packets of a few ticks that are late for good.
use Rattle.std.specs.Prelude.{ℕ, ◌+◌, List, [], ◌∷◌, ◌++◌, replicate}
use Rattle.world_packets.specs.declared.late_ticks.Later.{Later}
use Rattle.world_packets.specs.Kept.{KeptPacket, LatePacket}

-- the last of the ticks behind this one
abbrev pub last_tick : ℕ → List Later → ℕ
last_tick tick [] = tick
last_tick tick (l ∷ ls) = last_tick (tick + l.gap) ls

-- the packets of the ticks behind this one
abbrev pub later_kept : ℕ → List Later → List KeptPacket
later_kept tick [] = []
later_kept tick (l ∷ ls) = replicate l.count (LatePacket (tick + l.gap)) ++ later_kept (tick + l.gap) ls

-- so many packets of a tick, and those of the ticks behind it
abbrev pub late_kept : ℕ → ℕ → List Later → List KeptPacket
late_kept tick many ls = replicate many (LatePacket tick) ++ later_kept tick ls
