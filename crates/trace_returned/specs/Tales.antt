-- What the lines say of a call's messages, against the rows of its client and its server.
use Rattle.std.specs.Prelude.{◌≡◌, ℕ, ◌==◌, ◌&&◌, Bool, false, Option, Some, None, List, [], ◌∷◌, map, filter}
use Rattle.std.specs.Option.{option_map}
use Rattle.std.specs.List.{AllByRecursion}
use Rattle.plain_sets.specs.Maps.{get}
use Rattle.homa_plain.specs.declared.id.CallId.{CallId}
use Rattle.homa_plain.specs.declared.id.HostId.{HostId}
use Rattle.homa_plain.specs.declared.packet.Role.{Role}
use Rattle.homa_plain.specs.declared.packet.Role.TheVariants.{Client, Server}
use Rattle.homa_plain.specs.declared.packet.Body.{Body}
use Rattle.homa_plain.specs.declared.packet.Body.TheVariants as body
use Rattle.homa_plain.specs.declared.settings.Settings.{Settings}
use Rattle.homa_plain.specs.Calls.{is_host, is_call}
use Rattle.homa_plain.specs.Incoming.{Incoming}
use Rattle.trace_rules.specs.Parts.{Part}
use Rattle.homa_plain.specs.Rows.{ClientRow, State, Receiving, Held, Replying, Buried}
use Rattle.trace_rules.specs.View.{View, Progress, Called, Ran, incarnation}
use Rattle.homa_plain.specs.World.{World, SentPacket}
use Rattle.trace_steps.proofs.Progress.{IsLevel}
use Rattle.trace_steps.specs.Stands.{Stand, stand}
use Rattle.trace_steps.specs.Contents.{replies, IsSlice, Replies}
use Rattle.trace_steps.specs.Arrived.{IsSamePart, NoMessage}

-- ---- the lines

-- what has arrived of a call's messages; and, of a live call, the greatest incarnation of the packets that counted for it
pub record Tale : Type 0 where
  pub live : Option ℕ
  pub request : Option Part
  pub response : Option Part

-- what the lines so far say of a call
abbrev pub tale : Progress → CallId → Tale
tale m q = record { live = get m.live q; request = get m.requests q; response = get m.responses q }

-- ---- responses

-- the responses of a call's runs in a host's life
abbrev pub replies_in : View → HostId → ℕ → CallId → List (List ℕ)
replies_in v host n id = map (λ (r : Ran). r.response) (filter (λ (r : Ran). is_call r.id id && is_host r.host host && r.life == n) v.runs)

-- it is the response of the call's only run in the life of its server with this incarnation
pub record IsReplyOf (v : View) (q : CallId) (server : HostId) (inc : ℕ) (response : List ℕ) : Type 0 where
  pub life : ℕ
  pub told : incarnation v server life ≡ Some inc
  pub gave : replies_in v server life q ≡ response ∷ []

-- a piece of a response is one of what its sender answered in the life that sent it
abbrev pub RepliesTo : View → CallId → HostId → ℕ → Body → List ℕ → Type 0
RepliesTo v id server inc (body.Data size offset version service ack) payload =
    (response : List ℕ) × IsReplyOf v id server inc response × IsSlice response size offset payload
RepliesTo v id server inc other payload = Unit {0}

-- a packet of the server, if it is a piece of a response, is of what was answered; of a client's packet nothing is said
abbrev pub CarriesReply : View → Role → CallId → HostId → ℕ → Body → List ℕ → Type 0
CarriesReply v Client id server inc what payload = Unit {0}
CarriesReply v Server id server inc what payload = RepliesTo v id server inc what payload

-- a packet that was sent is so: a piece of a response is of what its sender answered in the life that sent it
abbrev pub IsTruthful : View → SentPacket → Type 0
IsTruthful v p = CarriesReply v p.packet.role p.packet.id p.packet.server p.packet.inc p.packet.body p.packet.payload

-- ---- what has arrived

-- the service and the message that a row is receiving
abbrev pub receiving : Option State → Option (ℕ × Incoming)
receiving None = None
receiving (Some (Receiving service part base count)) = Some (service, part)
receiving (Some (Held response release)) = None
receiving (Some (Replying response out order base count)) = None
receiving (Some (Buried until)) = None

-- a request at its server: what the row has of it is what the lines have; where the row has none the lines have none either, but that of a call that ran
abbrev pub IsSameRequest : Settings → HostId → Called → Bool → Option (ℕ × Incoming) → Option Part → Type 0
IsSameRequest s client c ran (Some row) None = ⊥
IsSameRequest s client c ran (Some row) (Some q) = (row.0 ≡ c.service) × IsSamePart s c.server c.request row.1 q × (q.peer ≡ client)
IsSameRequest s client c ran None q = (ran ≡ false → q ≡ None) × NoMessage q

-- a response at its client, of the latest life of its server that the client has heard of
abbrev pub IsSamePiece : Settings → View → CallId → HostId → ℕ → Option Incoming → Option Part → Type 0
IsSamePiece s v q server seen None o = o ≡ None
IsSamePiece s v q server seen (Some p) None = ⊥
IsSamePiece s v q server seen (Some p) (Some o) =
    (response : List ℕ) × IsReplyOf v q server seen response × IsSamePart s q.client response p o × (o.peer ≡ server)

-- a response at its client: the lines have of it what the row has; where there is no row, the lines have none
abbrev pub IsSameResponse : Settings → View → CallId → Option ClientRow → Option Part → Type 0
IsSameResponse s v q None o = o ≡ None
IsSameResponse s v q (Some r) o = IsSamePiece s v q r.server r.seen r.part o

-- a call at its client and at one host, against what the lines say of it
pub record IsSame (s : Settings) (v : View) (q : CallId) (n : HostId) (x : Stand) (t : Tale) : Type 0 where
  pub live : t.live ≡ option_map (λ (r : ClientRow). r.seen) x.client
  pub request : (c : Called) → x.called ≡ Some c → c.server ≡ n → IsSameRequest s q.client c x.ran (receiving x.server) t.request
  pub unmade : x.called ≡ None → t.request ≡ None
  pub response : IsSameResponse s v q x.client t.response
  pub replies : Replies (replies v n q) x.server

-- what is due in the block is what it has
pub record IsClosed (v : View) : Type 0 where
  pub runs : v.here.runs ≡ v.now.due.runs
  pub dones : v.here.dones ≡ v.now.due.dones
  pub forgotten : v.here.forgotten ≡ v.now.due.forgotten

-- ---- all of it

-- each call at each host is as the lines say, each piece of a response is of what was answered, and nothing is still due
pub record IsTrue (s : Settings) (w : World) (v : View) : Type 0 where
  pub same : (q : CallId) (n : HostId) → IsSame s v q n (stand w v q n) (tale v.now q)
  pub packets : AllByRecursion (IsTruthful v) w.packets
  pub level : IsLevel v
  pub closed : IsClosed v
