-- Packets that a line of a generated schedule sent.
use Rattle.std.specs.Prelude.{◌≡◌, ℕ, ◌≤◌, Some, slice_get}
use Rattle.homa_plain.specs.declared.settings.Settings.{Settings}
use Rattle.homa_plain.specs.World.{World, SentPacket}

-- with version 1, the packets from this number on were sent at the clock's tick
pub record AreNew (s : Settings) (w : World) (first : ℕ) : Type 0 where
  pub version : s.wire ≡ 1
  pub now : (n : ℕ) (sent : SentPacket) → first ≤ n → slice_get w.packets n ≡ Some sent → sent.tick ≡ w.clock
