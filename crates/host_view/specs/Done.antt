-- A step that was done.
use Rattle.std.specs.Prelude.{◌≡◌, ℕ, IsSome, Option, List, Contains, slice_get}
use Rattle.std.specs.List.{AllByRecursion}
use Rattle.std.specs.Option.{option_map, option_and_then}
use Rattle.homa_plain.specs.declared.id.HostId.{HostId}
use Rattle.homa_plain.specs.declared.packet.Packet.{Packet as WirePacket}
use Rattle.homa_plain.specs.Wire.{packet_in}
use Rattle.homa_plain.specs.Packets.{Packet, packet_between}
use Rattle.homa_plain.specs.Host.{packets_in, entries_from}
use Rattle.homa_plain.specs.Work.{Work}
use Rattle.host_view.specs.declared.mark.Mark.TheVariants.{Sent}
use Rattle.host_view.specs.declared.outbox.SentFrame.{SentFrame}
use Rattle.host_view.specs.Frames.{frames_of, IsFormed, packet_of}
use Rattle.host_view.specs.Seen.{Seen}
use Rattle.host_view.specs.Marks.{shown_entries}

-- each packet that the marks name is in the outbox
abbrev pub HoldsSent : Seen → List SentFrame → Type 0
HoldsSent h frames = (n : ℕ) → Contains h.marks (Sent n) → IsSome (option_and_then (packet_of h.settings) (slice_get frames n))

-- the host, the entries and the frames are those of a plain step
pub record IsDone (old : Seen) (step : Work) (new : Seen) (frames : List SentFrame) (whole : List ℕ) : Type 0 where
  pub host : new.host ≡ step.host
  pub settings : new.settings ≡ old.settings
  pub entries : shown_entries new frames whole ≡ entries_from 0 step.told
  pub posted : frames ≡ frames_of old.settings (packets_in step.told)
  pub formed : AllByRecursion (IsFormed old.settings) (packets_in step.told)
  pub sent : HoldsSent new frames

-- the packet that arrives with this datagram from a host; none if the bytes are no packet
abbrev pub arriving : Seen → HostId → List ℕ → Option Packet
arriving h from bytes = option_map (λ (r : WirePacket × List ℕ). packet_between from h.host.id r.0 r.1) (packet_in h.settings.wire bytes)
