-- A packet read as it is checked: its header, then the fields of its kind.
use Rattle.std.specs.Prelude.{ℕ, ◌^◌, Bool, ◌&&◌, nat_lt, nat_le, if◌then◌else◌, Option, None, Some, List}
use Rattle.homa_plain.specs.declared.packet.Role.{Role}
use Rattle.homa_plain.specs.declared.packet.Body.{Body}
use Rattle.homa_plain.specs.declared.packet.Packet.{Packet}
use Rattle.homa_plain.specs.Bytes.{◌>>=◌}
use Rattle.homa_plain.specs.Wire.{is_between, is_call, latest, fits_kind, is_well_formed, body_at}
use Rattle.homa_wire.specs.declared.header.Header.{Header}

-- what is well formed of a header: its version, the sender's incarnation, the call and the clock
abbrev pub is_header : ℕ → ℕ → ℕ × ℕ → ℕ → Bool
is_header wire sender call at = is_between 1 2 wire && nat_le 1 sender && nat_lt sender (2 ^ 32) && is_call call && nat_le at (latest wire)

-- a packet that was read, if it is well formed
abbrev pub checked : ℕ → Option (Packet × List ℕ) → Option (Packet × List ℕ)
checked wire found = do
  read ← found
  if is_well_formed wire read.0 read.1 then Some read else None

-- the fields of the kind with this number, if they fit the role and the level of their packet, and the payload
abbrev pub fields_in : ℕ → Role → ℕ → List ℕ → Option (Body × List ℕ)
fields_in number role level bytes = do
  what ← body_at number bytes
  if fits_kind role level what.0 what.1 then Some what else None

-- the packet with this header and body
abbrev pub made : Header → Body → Packet
made h what = record { role = h.role; level = h.level; sender = h.sender; inc = h.inc; seq = h.seq; at = h.at; body = what }

-- the packet that has this header, if the bytes behind it are its fields and its payload
unfoldable pub packet_with : Header → List ℕ → Option (Packet × List ℕ)
packet_with h bytes = do
  what ← fields_in h.kind h.role h.level bytes
  Some (made h what.0, what.1)

-- the packet of what was read as a header and the bytes behind it
abbrev pub packet_behind : Option (Header × List ℕ) → Option (Packet × List ℕ)
packet_behind None = None
packet_behind (Some read) = packet_with read.0 read.1
