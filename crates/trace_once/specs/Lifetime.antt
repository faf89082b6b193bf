-- The lifetime invariant of one call at its client and at one host: what holds of it and of its packets at every moment, and what stays of that.
use Rattle.std.specs.Prelude.{◌≡◌, ℕ, ◌+◌, ◌-◌, ◌≤◌, ◌<◌, Bool, true, false, Option, Some, None, List, length, slice_range}
use Rattle.plain_sets.specs.Maps.{IsPartOf}
use Rattle.plain_sets.specs.Numbers.{has, IsBelow}
use Rattle.homa_plain.specs.declared.id.HostId.{HostId}
use Rattle.homa_plain.specs.declared.packet.Role.{Role}
use Rattle.homa_plain.specs.declared.packet.Role.TheVariants.{Client, Server}
use Rattle.homa_plain.specs.declared.packet.Body.{Body}
use Rattle.homa_plain.specs.declared.packet.Body.TheVariants as body
use Rattle.homa_plain.specs.declared.settings.Settings.{Settings}
use Rattle.homa_plain.specs.Settings.{accepted_life, band, patience}
use Rattle.homa_plain.specs.Incoming.{Incoming, arrived}
use Rattle.homa_plain.specs.Outgoing as outgoing
use Rattle.homa_plain.specs.Rows.{ClientRow, State, Receiving, Held, Replying, Buried}
use Rattle.trace_rules.specs.View.{Called}
use Rattle.trace_steps.specs.Stands.{Stand}

-- the three spans of time that the invariant speaks of
pub record Times : Type 0 where
  pub life : ℕ  -- for how many ticks of the world's clock a packet may be taken
  pub band : ℕ  -- how far a host's own clock may be ahead of the world's
  pub patience : ℕ  -- for how long a client that hears nothing sends its request again

-- these spans, by the settings
abbrev pub times : Settings → Times
times s = record { life = accepted_life s; band = band s; patience = patience s }

-- how long a packet may still have an effect
abbrev pub span : Times → ℕ
span s = s.life + s.band

-- ---- the record of a call that ran

-- where no row stands: a call that ran is forgotten since the host's last step at the latest
abbrev pub gone_since : Bool → ℕ → Option ℕ
gone_since false last = None
gone_since true last = Some last

-- The expiry of the record of a call that ran: its tombstone's last tick and one more, or, where the tombstone is gone, the
-- host's last step, which came no earlier. A call that did not run, or whose response is still sent, has none.
abbrev pub expiry : Bool → ℕ → Option State → Option ℕ
expiry ran last None = gone_since ran last
expiry ran last (Some (Receiving service part base count)) = None
expiry ran last (Some (Held response release)) = None
expiry ran last (Some (Replying response out order base count)) = None
expiry ran last (Some (Buried until)) = Some (until + 1)

-- the expiry of the call's record at the host, if the call has one there
abbrev pub expiry_of : Stand → Option ℕ
expiry_of v = expiry v.ran v.last v.server

-- whether the host has a row of the call, or ran it
abbrev pub took_part : Bool → Option State → Bool
took_part ran None = ran
took_part ran (Some state) = true

-- a request packet that was sent at this tick can't be taken any more when the record expires
abbrev pub CoversRequest : Times → Stand → ℕ → Type 0
CoversRequest s v t = (y : ℕ) → expiry_of v ≡ Some y → t + span s < y

-- neither can a request packet that is sent because of what the server sent at this tick
abbrev pub CoversReply : Times → Stand → ℕ → Type 0
CoversReply s v t = (r : ClientRow) (y : ℕ) → v.client ≡ Some r → expiry_of v ≡ Some y → t + span s + s.patience + span s < y

-- ---- what the lines say of the call

-- what the `call` line of a call to this host says
abbrev pub call_to : HostId → ℕ → List ℕ → Called
call_to host service request = record { server = host; service = service; request = request }

-- it was made to this host
pub record IsMadeTo (h : HostId) (v : Stand) : Type 0 where
  pub service : ℕ
  pub request : List ℕ
  pub called : v.called ≡ Some (call_to h service request)

-- a call that is over: it was made, and is not live any more
abbrev pub IsOver : HostId → Stand → Type 0
IsOver h v = IsMadeTo h v × (v.client ≡ None)

-- ---- packets

-- the last byte of the live call's request was sent
abbrev pub HasSentAll : Stand → Type 0
HasSentAll v = (r : ClientRow) → v.client ≡ Some r → r.out.top ≡ r.out.length

-- a piece of the call's request, sent at this tick
pub record IsRequestPiece (s : Times) (h : HostId) (v : Stand) (t size offset service : ℕ) (payload : List ℕ) : Type 0 where
  pub request : List ℕ
  pub called : v.called ≡ Some (call_to h service request)
  pub whole : size ≡ length request
  pub bytes : payload ≡ slice_range request offset (offset + length payload)
  pub some : 0 < length payload
  pub within : offset + length payload ≤ size
  pub covered : CoversRequest s v t
  pub last : size ≤ offset + length payload → HasSentAll v

-- what the client sent at this tick: DATA is a piece of the call's request; of other packets nothing is said
abbrev pub RequestFits : Times → HostId → Stand → ℕ → Body → List ℕ → Type 0
RequestFits s h v t (body.Data size offset version service ack) payload = IsRequestPiece s h v t size offset service payload
RequestFits s h v t other payload = Unit {0}

-- The reason of an UNKNOWN is 0, there is no record of the call, or 1, it ran and its response is gone. A server acknowledges nothing.
abbrev pub ReplyFits : Times → Stand → ℕ → Body → Type 0
ReplyFits s v t (body.Unknown reason) = reason ≤ 1
ReplyFits s v t (body.Ack more) = ⊥
ReplyFits s v t (body.Data size offset version service (Some call)) = ⊥
ReplyFits s v t other = CoversReply s v t

-- what was sent at this tick: by the client as above for requests, by the server as above for replies
abbrev pub BodyFits : Times → HostId → Stand → ℕ → Role → Body → List ℕ → Type 0
BodyFits s h v t Client what payload = RequestFits s h v t what payload
BodyFits s h v t Server what payload = ReplyFits s v t what

-- a packet between the call's client and the host
pub record Fits (s : Times) (h : HostId) (v : Stand) (t : ℕ) (role : Role) (what : Body) (payload : List ℕ) : Type 0 where
  pub past : t ≤ v.clock
  pub made : IsMadeTo h v
  pub fits : BodyFits s h v t role what payload

-- ---- the server's row

-- whether the last byte has arrived
abbrev pub has_last : Incoming → Bool
has_last part = has (arrived part) (part.length - 1)

-- the part of the call's request that has arrived
pub record PartFits (h : HostId) (v : Stand) (service : ℕ) (part : Incoming) : Type 0 where
  pub request : List ℕ
  pub called : v.called ≡ Some (call_to h service request)
  pub whole : part.length ≡ length request
  pub bytes : IsPartOf part.bytes request
  pub below : IsBelow (arrived part) part.length
  pub some : 0 < part.length
  pub last : has_last part ≡ true → HasSentAll v

-- while the request arrives, the call hasn't run, and the bytes are those of its request; in each other state it has run
abbrev pub StateFits : HostId → Stand → State → Type 0
StateFits h v (Receiving service part base count) = (v.ran ≡ false) × PartFits h v service part
StateFits h v (Held response release) = v.ran ≡ true
StateFits h v (Replying response out order base count) = (v.ran ≡ true) × outgoing.IsSound out
StateFits h v (Buried until) = v.ran ≡ true

-- so it is of the host's row of the call, if it has one
abbrev pub RowFits : HostId → Stand → Option State → Type 0
RowFits h v None = Unit {0}
RowFits h v (Some state) = StateFits h v state

-- ---- the client's row

-- what the `call` line says
abbrev pub called_by : ClientRow → Called
called_by r = call_to r.server r.service r.request

-- the client's row: its call as the line says, a sound outgoing request, and heard of no later than a host's clock can be
pub record ClientFits (s : Times) (v : Stand) (r : ClientRow) : Type 0 where
  pub called : v.called ≡ Some (called_by r)
  pub size : r.out.length ≡ length r.request
  pub out : outgoing.IsSound r.out
  pub heard : r.heard ≤ v.clock + s.band

-- ---- the call

-- what holds of a call at its client and at this host at every moment
pub record Lifetime (s : Times) (h : HostId) (v : Stand) : Type 0 where
  pub last : v.last ≤ v.clock + s.band
  pub named : (c : Called) → v.called ≡ Some c → v.old ≡ true
  pub client : (r : ClientRow) → v.client ≡ Some r → ClientFits s v r
  pub made : took_part v.ran v.server ≡ true → IsMadeTo h v
  pub row : RowFits h v v.server
  pub sent : v.ran ≡ true → HasSentAll v
  pub covered : (r : ClientRow) (y : ℕ) → v.client ≡ Some r → expiry_of v ≡ Some y → r.heard + s.patience + span s < y

-- what is left of an earlier moment of the call
pub record Later (s : Times) (v u : Stand) : Type 0 where
  pub clock : v.clock ≤ u.clock
  pub called : (c : Called) → v.called ≡ Some c → u.called ≡ Some c
  pub client : (c : Called) → v.called ≡ Some c → (r : ClientRow) → u.client ≡ Some r
      → (q : ClientRow) × (v.client ≡ Some q) × (q.out.top ≡ q.out.length → r.out.top ≡ r.out.length)
  pub requests : (t : ℕ) → t ≤ v.clock → CoversRequest s v t → CoversRequest s u t
  pub replies : (t : ℕ) → t ≤ v.clock → (c : Called) → v.called ≡ Some c → CoversReply s v t → CoversReply s u t
