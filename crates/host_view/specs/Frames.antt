-- The frames that a step puts into an outbox.
use Rattle.std.specs.Prelude.{◌≡◌, ℕ, Option, None, Some, List, map, slice_get}
use Rattle.homa_plain.specs.declared.packet.Packet.{Packet as WirePacket}
use Rattle.homa_plain.specs.declared.settings.Settings.{Settings}
use Rattle.homa_plain.specs.Wire.{IsWellFormed, packet_in}
use Rattle.homa_plain.specs.Entries.{PlainEntry, PlainJunk}
use Rattle.homa_plain.specs.Packets.{Packet, sender, receiver, wire_packet, datagram, packet_between, send_line}
use Rattle.host_view.specs.declared.outbox.SentFrame.{SentFrame}

-- the frame of a packet: its sender, its receiver and its datagram
abbrev pub frame_of : Settings → Packet → SentFrame
frame_of s p = record { from = sender p; to = receiver p; frame = datagram s p }

-- the frames of packets, in their order
abbrev pub frames_of : Settings → List Packet → List SentFrame
frames_of s ps = map (frame_of s) ps

-- the packet is well formed, so that its datagram is read as this packet
abbrev pub IsFormed : Settings → Packet → Type 0
IsFormed s p = IsWellFormed s.wire (wire_packet p) p.payload

-- the packet that a frame is read as
abbrev pub packet_of : Settings → SentFrame → Option (WirePacket × List ℕ)
packet_of s f = packet_in s.wire f.frame

-- the `send` line of a frame, with this number
abbrev pub read_line : ℕ → SentFrame → Option (WirePacket × List ℕ) → PlainEntry
read_line n f None = PlainJunk f.from
read_line n f (Some r) = send_line n (packet_between f.from f.to r.0 r.1)

-- the `send` line of a step's frame with this number
abbrev pub line_of : Settings → ℕ → Option SentFrame → PlainEntry
line_of s n None = PlainJunk (record { 0 = 0 })
line_of s n (Some f) = read_line n f (packet_of s f)

-- the `send` line of the frame with this number
abbrev pub frame_line : Settings → List SentFrame → ℕ → PlainEntry
frame_line s frames n = line_of s n (slice_get frames n)
