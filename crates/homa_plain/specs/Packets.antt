-- Packets as the rules of hosts and worlds see them: the call, its server, who sent it, and what it says.
use Rattle.std.specs.Prelude.{ℕ, not, Some, List, [], ◌∷◌, map, filter}
use Rattle.homa_plain.specs.declared.id.CallId.{CallId}
use Rattle.homa_plain.specs.declared.id.HostId.{HostId}
use Rattle.homa_plain.specs.declared.packet.Role.{Role}
use Rattle.homa_plain.specs.declared.packet.Role.TheVariants.{Client, Server}
use Rattle.homa_plain.specs.declared.packet.Body.{Body}
use Rattle.homa_plain.specs.declared.packet.Body.TheVariants as body
use Rattle.homa_plain.specs.declared.packet.Packet.{Packet as WirePacket}
use Rattle.homa_plain.specs.declared.settings.Settings.{Settings}
use Rattle.homa_plain.specs.Calls.{is_call}
use Rattle.homa_plain.specs.Entries.{PlainEntry, PlainSend}
use Rattle.homa_plain.specs.Wire.{spelling}

-- a packet between a call's client and its server
pub record Packet : Type 0 where
  pub role : Role  -- which of the two sent it
  pub id : CallId
  pub server : HostId
  pub inc : ℕ  -- the sender's incarnation
  pub at : ℕ  -- the sender's own clock at the sending; 0 with version 1
  pub level : ℕ
  pub body : Body
  pub payload : List ℕ

-- the sender of a packet of this role: the call's client, or its server
abbrev pub sender_of : Role → CallId → HostId → HostId
sender_of Client id server = id.client
sender_of Server id server = server

-- the receiver of a packet of this role: the other of the two
abbrev pub receiver_of : Role → CallId → HostId → HostId
receiver_of Client id server = server
receiver_of Server id server = id.client

-- the host that sent a packet
abbrev pub sender : Packet → HostId
sender p = sender_of p.role p.id p.server

-- the host that a packet is for
abbrev pub receiver : Packet → HostId
receiver p = receiver_of p.role p.id p.server

-- calls of one client
abbrev pub calls_of : HostId → List (ℕ × ℕ) → List CallId
calls_of client calls = map (λ (c : ℕ × ℕ). record { client = client; inc = c.0; seq = c.1 }) calls

-- the calls that a packet acknowledges: those of an ACK, or the one in a request's piece, unless it is its own
abbrev pub acks_in : CallId → Body → List CallId
acks_in id (body.Data length offset version service (Some call)) = filter (λ q. not (is_call q id)) (calls_of id.client (call ∷ []))
acks_in id (body.Ack more) = id ∷ calls_of id.client more
acks_in id body = []

-- the calls that a packet acknowledges, its own among them where it is an ACK
abbrev pub acks : Packet → List CallId
acks p = acks_in p.id p.body

-- the packet with its fields as they are in a datagram
abbrev pub wire_packet : Packet → WirePacket
wire_packet p = record { role = p.role; level = p.level; sender = p.inc; inc = p.id.inc; seq = p.id.seq; at = p.at; body = p.body }

-- the datagram of a packet
abbrev pub datagram : Settings → Packet → List ℕ
datagram s p = spelling s.wire (wire_packet p) p.payload

-- a datagram's packet, as it goes from one host to another: its client is the sender of role c, the receiver of role s
abbrev pub call_between : Role → HostId → HostId → ℕ → ℕ → CallId
call_between Client from to inc seq = record { client = from; inc = inc; seq = seq }
call_between Server from to inc seq = record { client = to; inc = inc; seq = seq }

-- the server of the call: the receiver of a packet of its client, and the sender of one of its own
abbrev pub server_between : Role → HostId → HostId → HostId
server_between Client from to = to
server_between Server from to = from

-- a datagram's packet as the rules see it, as it goes from one host to another
abbrev pub packet_between : HostId → HostId → WirePacket → List ℕ → Packet
packet_between from to w payload = record {
  role = w.role;
  id = call_between w.role from to w.inc w.seq;
  server = server_between w.role from to;
  inc = w.sender;
  at = w.at;
  level = w.level;
  body = w.body;
  payload = payload;
}

-- the `send` line of the packet with this number
abbrev pub send_line : ℕ → Packet → PlainEntry
send_line n p = PlainSend n (sender p) (receiver p) p.inc p.role p.id p.level p.body p.payload
