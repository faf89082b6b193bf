-- What a world shows of a packet on its way.
use Rattle.std.specs.Prelude.{◌≡◌, ◌<◌, ℕ, Option, None, Some, length, slice_get}
use Rattle.homa_plain.specs.declared.settings.Settings.{Settings}
use Rattle.homa_plain.specs.Packets.{receiver, datagram}
use Rattle.homa_plain.specs.World.{World, SentPacket}
use Rattle.homa_world.specs.declared.shown.Passing.{Passing}

-- this is shown of a packet that was sent
pub record IsPassing (s : Settings) (sent : SentPacket) (p : Passing) : Type 0 where
  pub to : p.to ≡ receiver sent.packet
  pub level : p.level ≡ sent.packet.level
  pub len : p.len ≡ length (datagram s sent.packet)
  pub tick : p.tick ≡ sent.tick

-- it is the packet with this number. With version 1, one that isn't shown was sent at an earlier tick; with version 2 nothing
-- is said of it.
abbrev pub IsOf : Settings → World → ℕ → Option Passing → Type 0
IsOf s w n None = (sent : SentPacket) → slice_get w.packets n ≡ Some sent → s.wire ≡ 1 → sent.tick < w.clock
IsOf s w n (Some p) = (sent : SentPacket) × (slice_get w.packets n ≡ Some sent) × IsPassing s sent p
