-- Which messages a host grants to, and what it sends of its own messages.
use Rattle.std.specs.Prelude.{ℕ, ◌-◌, nat_lt, if◌then◌else◌, Option, None, Some, List, [], ◌∷◌, ◌++◌, take, drop}
use Rattle.std.specs.List.{flat_map}
use Rattle.plain_sets.specs.Maps.{entries}
use Rattle.plain_sets.specs.Ranges.{Range}
use Rattle.homa_plain.specs.declared.id.CallId.{CallId}
use Rattle.homa_plain.specs.declared.packet.Cutoffs.{Cutoffs}
use Rattle.homa_plain.specs.declared.packet.Body.{Body}
use Rattle.homa_plain.specs.declared.packet.Body.TheVariants as body
use Rattle.homa_plain.specs.declared.settings.Settings.{Settings}
use Rattle.homa_plain.specs.Grants.{Message, seen}
use Rattle.homa_plain.specs.Cutoffs.{level_of}
use Rattle.homa_plain.specs.Incoming.{Incoming, granted_to}
use Rattle.homa_plain.specs.Outgoing.{Outgoing, next}
use Rattle.homa_plain.specs.Rows.{ClientRow, ServerRow, State, Receiving, Replying}
use Rattle.homa_plain.specs.Host.{Host}
use Rattle.homa_plain.specs.Timers.{Place, OfClient, OfServer}

-- ---- grants

-- an incoming message of a host, which isn't whole
pub record Arriving : Type 0 where
  pub place : Place
  pub message : Message

-- the response of a call, once it was opened
abbrev pub arriving_at_client : CallId → Option Incoming → List Arriving
arriving_at_client id None = []
arriving_at_client id (Some part) = record { place = OfClient id; message = seen part } ∷ []

-- the request of a call, while it arrives
abbrev pub arriving_at_server : CallId → State → List Arriving
arriving_at_server id (Receiving service part base count) = record { place = OfServer id; message = seen part } ∷ []
arriving_at_server id state = []

-- the incoming messages of a host: the responses and the requests of which bytes are missing
abbrev pub arrivals : Host → List Arriving
arrivals h =
    flat_map (λ (e : CallId × ClientRow). arriving_at_client e.0 e.1.part) (entries h.clients)
    ++ flat_map (λ (e : CallId × ServerRow). arriving_at_server e.0 e.1.state) (entries h.servers)

-- a response that was granted up to an offset, if it was opened
abbrev pub granted_part : ℕ → Option Incoming → Option Incoming
granted_part offset None = None
granted_part offset (Some part) = Some (granted_to part offset)

-- the row of a message that was granted up to an offset: its timer begins anew
abbrev pub client_granted : ℕ → ℕ → ClientRow → ClientRow
client_granted now offset r = record r { part = granted_part offset r.part; base = now }

-- a request that was granted up to an offset, while it arrives: its timer begins anew
abbrev pub state_granted : ℕ → ℕ → State → State
state_granted now offset (Receiving service part base count) = Receiving service (granted_to part offset) now count
state_granted now offset state = state

-- the row of a request that was granted up to an offset
abbrev pub server_granted : ℕ → ℕ → ServerRow → ServerRow
server_granted now offset row = record row { state = state_granted now offset row.state }

-- ---- what may be sent

-- ---- a piece that is sent

-- the bytes of a message from one number up to another, not with it
abbrev pub slice : List ℕ → Range → List ℕ
slice bytes r = take (r.to - r.from) (drop r.from bytes)

-- the level of a piece: by the cutoffs of its receiver if it needs no grant, otherwise the last GRANT's or RESEND's
-- Source: SIGCOMM 2018, "Packet priorities" (from memory).
abbrev pub level_at : Settings → Cutoffs → Outgoing → ℕ → ℕ
level_at s cutoffs out offset = if nat_lt offset s.unsched then level_of s.overcommit cutoffs out.length else out.prio

-- what a packet carries
pub record Content : Type 0 where
  pub level : ℕ
  pub body : Body
  pub payload : List ℕ

-- a piece of the request; it acknowledges the oldest finished call of its server
abbrev pub request_content : Settings → Cutoffs → Option (ℕ × ℕ) → ClientRow → Range → Content
request_content s cutoffs ack r range = record {
  level = level_at s cutoffs r.out range.from;
  body = body.Data r.out.length range.from cutoffs.version r.service ack;
  payload = slice r.request range;
}

-- a piece of the response; it names no service and acknowledges no call
abbrev pub response_content : Settings → Cutoffs → List ℕ → Outgoing → Range → Content
response_content s cutoffs response out range = record {
  level = level_at s cutoffs out range.from;
  body = body.Data out.length range.from cutoffs.version 0 None;
  payload = slice response range;
}

-- each piece of a new request starts its timer anew
-- A rule of this project.
abbrev pub while_new : ℕ → ClientRow → ClientRow
while_new now r = if nat_lt r.out.top r.out.length then record r { heard = now; base = now; count = 0 } else r

-- the row of a request of which the next piece is sent
abbrev pub client_sends : Settings → ℕ → ClientRow → ClientRow
client_sends s now r = record (while_new now r) { out = (next r.out s.seg).part }

-- the row of a response of which the next piece is sent
abbrev pub state_sends : Settings → ℕ → State → State
state_sends s now (Replying response out order base count) = Replying response (next out s.seg).part order now count
state_sends s now state = state
