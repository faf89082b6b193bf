-- What the numbers of hosts and rows are within, so that every packet is well formed.
use Rattle.std.specs.Prelude.{◌≡◌, ◌<◌, ◌≤◌, ℕ, ◌^◌, IfSome, List, [], length}
use Rattle.std.specs.List.{AllByRecursion}
use Rattle.homa_plain.specs.declared.id.CallId.{CallId}
use Rattle.homa_plain.specs.declared.packet.Role.{Role}
use Rattle.homa_plain.specs.declared.packet.Cutoffs.{Cutoffs}
use Rattle.homa_plain.specs.declared.settings.Settings.{Settings}
use Rattle.homa_plain.specs.Bytes.{IsBytes}
use Rattle.homa_plain.specs.Wire.{IsCall, FitsKind, IsWellFormed, Between}
use Rattle.homa_plain.specs.Incoming.{Incoming}
use Rattle.homa_plain.specs.Incoming as incoming
use Rattle.homa_plain.specs.Outgoing.{Outgoing}
use Rattle.homa_plain.specs.Outgoing as outgoing
use Rattle.homa_plain.specs.Packets.{Packet, wire_packet}
use Rattle.homa_plain.specs.Host.{Host, Told, Says, Sends}
use Rattle.homa_plain.specs.Rows.{ClientRow, State, Receiving, Held, Replying, Buried}
use Rattle.homa_plain.specs.Rules.{Say, Tells, Posts}
use Rattle.homa_plain.specs.Limits.{last_host_tick, longest_message}

-- a packet that its bytes give back
abbrev pub IsSent : Settings → Packet → Type 0
IsSent s p = IsWellFormed s.wire (wire_packet p) p.payload

-- a host's own numbers
pub record HasNumbers (h : Host) : Type 0 where
  pub inc : 1 ≤ h.inc
  pub inc_fits : h.inc < 2 ^ 32
  pub clock : h.last ≤ last_host_tick

-- a call's incarnation and sequence number can stand in a packet
abbrev pub IsId : CallId → Type 0
IsId id = IsCall (id.inc, id.seq)

-- what a rule says at this role can be sent
abbrev pub FitsSay : Role → Say → Type 0
FitsSay role (Tells entry) = Unit {0}
FitsSay role (Posts what) = FitsKind role 7 what []

-- all that a rule says at this role can be sent
abbrev pub FitSays : Role → List Say → Type 0
FitSays role says = AllByRecursion (FitsSay role) says

-- every packet that is told is well formed
abbrev pub FitsTold : Settings → Told → Type 0
FitsTold s (Says entry) = Unit {0}
FitsTold s (Sends p) = IsSent s p

-- every packet among what is told is well formed
abbrev pub FitTold : Settings → List Told → Type 0
FitTold s told = AllByRecursion (FitsTold s) told

-- a message of 1 to 1,000,000 bytes
abbrev pub IsMessage : List ℕ → Type 0
IsMessage bytes = Between 1 longest_message (length bytes) × IsBytes bytes

-- an outgoing part of a message
pub record IsPart (bytes : List ℕ) (out : Outgoing) : Type 0 where
  pub sound : outgoing.IsSound out
  pub size : out.length ≡ length bytes
  pub prio : out.prio ≤ 7

-- an incoming part
pub record IsArriving (part : Incoming) : Type 0 where
  pub sound : incoming.IsSound part
  pub size : part.length ≤ longest_message

-- a client's row: its request is a message, its service is a byte, and both its parts are sound
pub record IsClientRow (r : ClientRow) : Type 0 where
  pub message : IsMessage r.request
  pub out : IsPart r.request r.out
  pub service : r.service < 256
  pub part : IfSome r.part IsArriving

-- a server's state: the request that arrives is sound, or the response is a message
abbrev pub IsState : State → Type 0
IsState (Receiving service part base count) = IsArriving part
IsState (Held response release) = IsMessage response
IsState (Replying response out order base count) = IsMessage response × IsPart response out
IsState (Buried until) = Unit {0}

-- bounds that can be told
pub record AreCutoffs (c : Cutoffs) : Type 0 where
  pub version : c.version < 2 ^ 16
  pub eight : length c.upto ≡ 8
  pub within : AllByRecursion (λ bound. bound ≤ longest_message) c.upto
