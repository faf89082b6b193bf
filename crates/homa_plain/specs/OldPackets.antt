-- A packet too old: with version 1 the network gives it up, with version 2 its receiver refuses it.
use Rattle.std.specs.Prelude.{ℕ, ◌+◌, ◌*◌, ◌==◌, nat_lt, Bool, ◌&&◌}
use Rattle.homa_plain.specs.declared.settings.Settings.{Settings}
use Rattle.homa_plain.specs.Packets.{Packet}

-- whether a packet that was sent at the first tick may not be delivered any more at the second: with version 1, after its life
abbrev pub is_past_life : Settings → ℕ → ℕ → Bool
is_past_life s sent now = s.wire == 1 && nat_lt (sent + s.life) now

-- whether a packet is too old by the receiver's clock, which only version 2 can say;
-- a packet within its life never is, however the two clocks differ
-- A rule of this project.
abbrev pub is_stale : Settings → ℕ → Packet → Bool
is_stale s now p = s.wire == 2 && nat_lt (p.at + s.life + 2 * s.skew) now
