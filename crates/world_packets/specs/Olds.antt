-- What is kept of packets that are certainly stale.
use Rattle.std.specs.Prelude.{◌≡◌, ◌≤◌, ◌<◌, ℕ, ◌+◌, true, false, Bool, Some, Result, Ok, Err, List, [], ◌∷◌, ◌++◌, slice_get}
use Rattle.core.specs.declared.alloc.AllocError.{AllocError}
use Rattle.homa_plain.specs.declared.id.HostId.{HostId}
use Rattle.homa_plain.specs.declared.packet.Packet.{Packet as WirePacket}
use Rattle.homa_plain.specs.Wire.{packet_in}
use Rattle.world_packets.specs.declared.past.Old.{Old}
use Rattle.world_packets.specs.Blocks.{Frame}

-- a datagram of version 2 tells this clock of its sender
abbrev pub TellsClock : List ℕ → ℕ → Type 0
TellsClock bytes at = (read : WirePacket × List ℕ) × (packet_in 2 bytes ≡ Some read) × (read.0.at ≡ at)

-- a datagram's packet for this host is certainly stale at a tick, and this is kept of it
abbrev pub IsOld : ℕ → ℕ → HostId → List ℕ → Old → Type 0
IsOld reach now to bytes o = (o.to ≡ to) × TellsClock bytes o.at × (o.at + reach < now)

-- a datagram's packet isn't certainly stale at a tick, or the bytes are no packet
abbrev pub IsNotOld : ℕ → ℕ → List ℕ → Type 0
IsNotOld reach now bytes = (at : ℕ) → TellsClock bytes at → now ≤ at + reach

-- one of these datagrams has a packet that isn't certainly stale at a tick, or is no packet
abbrev pub HasNotOld : ℕ → ℕ → List Frame → Type 0
HasNotOld reach now frames = (i : ℕ) × (f : Frame) × (slice_get frames i ≡ Some f) × IsNotOld reach now f.bytes

-- the packets of these datagrams are certainly stale, and this is kept of them
abbrev pub AreOlds : ℕ → ℕ → List Frame → List Old → Type 0
AreOlds reach now [] [] = Unit {0}
AreOlds reach now [] (o ∷ olds) = ⊥
AreOlds reach now (f ∷ frames) [] = ⊥
AreOlds reach now (f ∷ frames) (o ∷ olds) = IsOld reach now f.to f.bytes o × AreOlds reach now frames olds

-- the packets of these datagrams are certainly stale, and what is kept of them was added
abbrev pub AddsOlds : ℕ → ℕ → List Frame → List Old → List Old → Type 0
AddsOlds reach now frames before after = (olds : List Old) × (after ≡ before ++ olds) × AreOlds reach now frames olds

-- the first holds where the answer is `true`, else the second
abbrev pub IfTaken : Result Bool AllocError → Type 0 → Type 0 → Type 0
IfTaken (Ok true) Taken Left = Taken
IfTaken (Ok false) Taken Left = Left
IfTaken (Err e) Taken Left = Left
