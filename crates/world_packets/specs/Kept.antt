-- What is kept of the packets that were sent.
use Rattle.std.specs.Prelude.{◌≡◌, ◌⊎◌, ◌≤◌, ◌<◌, ℕ, ◌+◌, ◌*◌, Some, List, [], ◌∷◌, slice_get}
use Rattle.homa_plain.specs.declared.id.HostId.{HostId}
use Rattle.homa_plain.specs.declared.settings.Settings.{Settings}
use Rattle.world_packets.specs.declared.packets.Kept.{Kept}
use Rattle.world_packets.specs.declared.packets.Kept.TheVariants.{Whole, Late, Stale}
use Rattle.world_packets.specs.Blocks.{Frame}
use Rattle.world_packets.specs.Olds.{TellsClock}

-- what is kept of a packet: all of it; that it is late for good, and its tick; that it is certainly stale, its receiver and its sender's clock
pub data KeptPacket : Type 0 where
  WholePacket : (tick : ℕ) (frame : Frame) → KeptPacket
  LatePacket : (tick : ℕ) → KeptPacket
  StalePacket : (to : HostId) (at : ℕ) → KeptPacket

-- what is kept of a packet, with the bytes of its datagram
abbrev pub kept_seen : Kept → KeptPacket
kept_seen (Whole tick from to bytes) = WholePacket tick (record { from = from; to = to; bytes = bytes.now })
kept_seen (Late tick) = LatePacket tick
kept_seen (Stale to at) = StalePacket to at

-- a packet stays as it is kept, or it became too old by this tick of the world's clock: late for good with version 1, and with
-- version 2 certainly stale, whatever the leads
abbrev pub IsAged : Settings → ℕ → KeptPacket → KeptPacket → Type 0
IsAged s now (WholePacket tick f) (WholePacket later g) = (later ≡ tick) × (g ≡ f)
IsAged s now (WholePacket tick f) (LatePacket later) = (s.wire ≡ 1) × (later ≡ tick) × (tick + s.life < now)
IsAged s now (WholePacket tick f) (StalePacket to at) = (s.wire ≡ 2) × (to ≡ f.to) × TellsClock f.bytes at × (at + s.life + 2 * s.skew < now)
IsAged s now (LatePacket tick) (LatePacket later) = later ≡ tick
IsAged s now (StalePacket to at) (StalePacket other later) = (other ≡ to) × (later ≡ at)
IsAged s now old new = ⊥

-- each of these packets is kept as before, or became too old by this tick of the world's clock
abbrev pub AllAged : Settings → ℕ → List KeptPacket → List KeptPacket → Type 0
AllAged s now [] [] = Unit {0}
AllAged s now [] (new ∷ news) = ⊥
AllAged s now (old ∷ olds) [] = ⊥
AllAged s now (old ∷ olds) (new ∷ news) = IsAged s now old new × AllAged s now olds news

-- a whole packet that was sent in this tick isn't too old yet by this tick of the world's clock
pub record IsRecent (s : Settings) (now tick : ℕ) (f : Frame) : Type 0 where
  -- with version 1 it isn't late for good
  pub in_time : s.wire ≡ 1 → now ≤ tick + s.life
  -- with version 2 one of its tick with the greatest lead wouldn't be stale, or it isn't certainly stale by its own clock
  pub not_stale : s.wire ≡ 2 → (now ≤ tick + s.life + 4 * s.skew) ⊎ ((at : ℕ) → TellsClock f.bytes at → now ≤ at + s.life + 2 * s.skew)

-- one of the packets that were sent in this tick is whole and isn't too old yet
pub record HasRecent (s : Settings) (now tick : ℕ) (ks : List KeptPacket) : Type 0 where
  pub number : ℕ
  pub frame : Frame
  pub whole : slice_get ks number ≡ Some (WholePacket tick frame)
  pub recent : IsRecent s now tick frame

-- packets that are too old were given up: where some are still whole, the tick of the first of these has one that isn't too old yet
abbrev pub HasNoOld : Settings → ℕ → List KeptPacket → Type 0
HasNoOld s now [] = Unit {0}
HasNoOld s now (WholePacket tick f ∷ ks) = HasRecent s now tick (WholePacket tick f ∷ ks)
HasNoOld s now (LatePacket tick ∷ ks) = HasNoOld s now ks
HasNoOld s now (StalePacket to at ∷ ks) = HasNoOld s now ks
