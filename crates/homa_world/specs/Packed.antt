-- What is kept of the packets that were sent shows all that their deliveries can still do.
use Rattle.std.specs.Prelude.{◌≡◌, ◌≢◌, ◌<◌, ◌≤◌, length, ℕ, ◌+◌, ◌*◌, List, [], ◌∷◌}
use Rattle.homa_plain.specs.declared.settings.Settings.{Settings}
use Rattle.homa_plain.specs.Packets.{sender, receiver, datagram}
use Rattle.homa_plain.specs.World.{SentPacket}
use Rattle.host_view.specs.Frames.{IsFormed}
use Rattle.host_view.specs.declared.outbox.SentFrame.{SentFrame}
use Rattle.world_packets.specs.Kept.{KeptPacket, WholePacket, LatePacket, StalePacket}
use Rattle.homa_plain.specs.Limits.{last_host_tick}

-- what is kept of a packet, at a tick: its datagram; or that it is late for good, or certainly stale
abbrev pub IsShownBy : Settings → ℕ → SentPacket → KeptPacket → Type 0
IsShownBy s now sent (WholePacket tick f) =
    (tick ≡ sent.tick) × (f ≡ record { from = sender sent.packet; to = receiver sent.packet; bytes = datagram s sent.packet }) × IsFormed s sent.packet
IsShownBy s now sent (LatePacket tick) = (s.wire ≡ 1) × (tick ≡ sent.tick) × (tick + s.life < now)
IsShownBy s now sent (StalePacket to at) = (s.wire ≡ 2) × (to ≡ receiver sent.packet) × (at ≡ sent.packet.at) × (at + s.life + 2 * s.skew < now)

-- the same of each packet, in order
abbrev pub AreShownBy : Settings → ℕ → List SentPacket → List KeptPacket → Type 0
AreShownBy s now [] [] = Unit {0}
AreShownBy s now [] (k ∷ ks) = ⊥
AreShownBy s now (p ∷ ps) [] = ⊥
AreShownBy s now (p ∷ ps) (k ∷ ks) = IsShownBy s now p k × AreShownBy s now ps ks

-- a datagram comes from one of so many hosts to another one, and a clock is one that a packet can tell
abbrev pub IsFromHost : ℕ → KeptPacket → Type 0
IsFromHost hosts (WholePacket tick f) = (f.from.0 < hosts) × (f.from ≢ f.to)
IsFromHost hosts (LatePacket tick) = Unit {0}
IsFromHost hosts (StalePacket to at) = at ≤ last_host_tick

-- a frame that is sent at a tick
abbrev pub frame_kept : ℕ → SentFrame → KeptPacket
frame_kept tick f = WholePacket tick (record { from = f.from; to = f.to; bytes = f.frame })

-- a frame is no longer than a datagram may be
abbrev pub IsShort : SentFrame → Type 0
IsShort f = length f.frame ≤ 1444
