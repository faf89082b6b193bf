-- What is kept of the lines of a trace, and that it is what they say.
use Rattle.std.specs.Prelude.{◌≡◌, ℕ, zero, suc, ◌<◌, ◌≤◌, ◌==◌, ◌&&◌, Bool, true, false, if◌then◌else◌, Option, None, Some, option_and_then}
use Rattle.std.specs.Prelude.{unwrap_or, List, [], ◌∷◌, length, map, slice_get, Vec}
use Rattle.std.specs.Str.{bytes_eq}
use Rattle.std.specs.Option.{option_map, option_map_or}
use Rattle.std.specs.List.{AllByRecursion, list_all}
use Rattle.std.specs.BTreeSet.{contains}
use Rattle.plain_sets.specs.Maps.{get}
use Rattle.homa_plain.specs.declared.id.CallId.{CallId}
use Rattle.homa_plain.specs.declared.id.HostId.{HostId}
use Rattle.homa_plain.specs.declared.packet.Role.{Role}
use Rattle.homa_plain.specs.declared.packet.Role.TheVariants.{Client, Server}
use Rattle.homa_plain.specs.Calls.{is_host, is_call, call_cmp}
use Rattle.homa_plain.specs.Wire.{Between}
use Rattle.trace_rules.specs.Parts.{Part, is_message}
use Rattle.trace_rules.specs.View.{Ran, Ends, no_ends, View, nothing_seen, restarts_of, life, sent_last}
use Rattle.trace_rules.specs.Granting.{IsWithin}
use Rattle.trace_rules.specs.Judge as judge
use Rattle.check_call.specs.Spots as spots
use Rattle.check_call.specs.LeftOut.{runs_of, AreMade}
use Rattle.check_lines.specs.declared.block.Delivery.{Delivery}
use Rattle.check_lines.specs.declared.block.Here.{Here}
use Rattle.check_lines.specs.declared.block.Named.{Named}
use Rattle.check_lines.specs.declared.block.Named.TheVariants.{Nobody, Only, Several}
use Rattle.check_call.specs.declared.spot.Spot.{Spot}
use Rattle.check_call.specs.declared.call.Call.{Call}
use Rattle.check_call.specs.declared.call.Run.{Run}
use Rattle.check_call.specs.declared.call.Lives.{Lives}
use Rattle.check_call.specs.declared.resends.OwnTick.{OwnTick}
use Rattle.check_lines.specs.declared.host.Host.{Host}
use Rattle.check_lines.specs.declared.trace.Trace.{Trace}
use Rattle.check_call.specs.Kept.{Beside, StandsFor, no_spot, packet_of}
use Rattle.check_call.specs.Calls.{spot_in, beside, called_of, ends_of}

-- ---- look-ups

-- the call that stands at the place of its id
abbrev pub call_in : List CallId → List Call → CallId → Option Call
call_in [] cs q = None
call_in (k ∷ ks) [] q = None
call_in (k ∷ ks) (c ∷ cs) q = if is_call q k then Some c else call_in ks cs q

-- a call, if it was made
abbrev pub call_at : Trace → CallId → Option Call
call_at t q = call_in t.ids.keys t.calls.items q

-- the call of an id stands at this place
abbrev pub IsPlaceIn : List CallId → List Call → CallId → ℕ → Type 0
IsPlaceIn [] cs q n = ⊥
IsPlaceIn (k ∷ ks) [] q n = ⊥
IsPlaceIn (k ∷ ks) (c ∷ cs) q zero = is_call q k ≡ true
IsPlaceIn (k ∷ ks) (c ∷ cs) q (suc n) = (is_call q k ≡ false) × IsPlaceIn ks cs q n

-- a call stands at this place
abbrev pub IsPlace : Trace → CallId → ℕ → Type 0
IsPlace t q at = IsPlaceIn t.ids.keys t.calls.items q at

-- what is kept of a host, if anything is
abbrev pub host_at : Trace → HostId → Option Host
host_at t h = slice_get t.hosts.items h.0

-- by how many ticks its own clock is ahead, if a line told it
abbrev pub lead_of : Option Host → Option ℕ
lead_of None = None
lead_of (Some h) = h.lead

-- the incarnation of its first life, if its packets told it
abbrev pub first_of : Option Host → Option ℕ
first_of None = None
first_of (Some h) = h.first

-- the incarnations of its restarts
abbrev pub restarts_in : Option Host → List ℕ
restarts_in None = []
restarts_in (Some h) = h.restarts.items

-- in which life a host is
abbrev pub life_in : Trace → HostId → ℕ
life_in t h = length (restarts_in (host_at t h))

-- in which lives a call's client and a server are
abbrev pub lives_in : Trace → CallId → HostId → Lives
lives_in t q server = record { client = life_in t q.client; server = life_in t server }

-- a tick by a host's own clock
abbrev pub own_tick_in : Trace → HostId → OwnTick
own_tick_in t h = record { tick = t.tick; lead = unwrap_or (lead_of (host_at t h)) t.settings.skew }

-- the incarnation of a host's life
abbrev pub incarnation_of : Host → ℕ → Option ℕ
incarnation_of h zero = h.first
incarnation_of h (suc n) = slice_get h.restarts.items n

-- the same of a host by its number
abbrev pub incarnation_in : Trace → HostId → ℕ → Option ℕ
incarnation_in t h n = option_and_then (λ host. incarnation_of host n) (host_at t h)

-- the bytes of a response to this request, of which none are kept if it is the request
abbrev pub kept_or : {A : Type 0} → List ℕ → Option (Vec ℕ A) → List ℕ
kept_or request own = option_map_or (λ v. v.items) own request

-- a run of a call of this server with this request was in a life of this incarnation, and its response is this
abbrev pub is_answer_in : Trace → HostId → List ℕ → ℕ → List ℕ → Run → Bool
is_answer_in t server request inc bytes r =
    option_map_or (λ i. i == inc) (incarnation_in t server r.life) false && bytes_eq bytes (kept_or request r.response)

-- ---- hosts

-- of a host this is kept, its messages aside
pub record IsHost (v : View) (h : HostId) (o : Option Host) : Type 0 where
  pub lead : get v.leads h.0 ≡ lead_of o
  pub first : get v.firsts h.0 ≡ first_of o
  pub restarts : restarts_of v h ≡ restarts_in o

-- whether a call's request is noted as an incoming message of a host
abbrev pub asked_of : Option Host → CallId → Bool
asked_of None q = false
asked_of (Some h) q = contains call_cmp h.asked q

-- and whether its response is
abbrev pub awaited_of : Option Host → CallId → Bool
awaited_of None q = false
awaited_of (Some h) q = contains call_cmp h.awaited q

-- and of either, by the side that sends it: the request is the client's, the response the server's
abbrev pub incoming_of : Role → Option Host → CallId → Bool
incoming_of Client o q = asked_of o q
incoming_of Server o q = awaited_of o q

-- the other side of a call
abbrev pub other : Role → Role
other Client = Server
other Server = Client

-- whether a part, if there is one, is an incoming message of a host
abbrev pub is_incoming_at : HostId → Option Part → Bool
is_incoming_at h o = option_map_or (λ p. is_host p.host h && is_message p) o false

-- its incoming messages are noted
pub record IsListed (v : View) (h : HostId) (o : Option Host) : Type 0 where
  pub asked : (q : CallId) → asked_of o q ≡ is_incoming_at h (spots.spot v.now q).request
  pub awaited : (q : CallId) → awaited_of o q ≡ is_incoming_at h (spots.spot v.now q).response

-- ---- calls

-- a run, as its line tells it
abbrev pub run_of : CallId → HostId → List ℕ → Run → Ran
run_of q server request r = record { host = server; life = r.life; id = q; response = kept_or request r.response }

-- a call that was made
pub record IsKept (v : View) (q : CallId) (c : Call) : Type 0 where
  pub called : get v.calls q ≡ Some (called_of c)
  pub size : c.size ≡ length c.request.items
  pub sent : c.sent_last ≡ sent_last v q
  pub runs : runs_of v q ≡ map (run_of q c.server c.request.items) c.runs.items
  pub client_life : c.lives.client ≤ life v q.client
  pub server_life : c.lives.server ≤ life v c.server
  pub now : StandsFor (beside q.client v.settings.resend c) (spot_in c (record { client = life v q.client; server = life v c.server })) (spots.spot v.now q)

-- a call that wasn't
pub record IsAbsent (v : View) (q : CallId) : Type 0 where
  pub called : get v.calls q ≡ None
  pub runs : runs_of v q ≡ []
  pub now : spots.spot v.now q ≡ no_spot

-- of a call this is kept
abbrev pub IsCallAt : View → CallId → Option Call → Type 0
IsCallAt v q None = IsAbsent v q
IsCallAt v q (Some c) = IsKept v q c

-- ---- the block

-- the calls that are told
abbrev pub IsNamed : Named → List CallId → Type 0
IsNamed Nobody ids = ids ≡ []
IsNamed (Only id) ids = (0 < length ids) × AllByRecursion (λ q. q ≡ id) ids
IsNamed Several ids = (0 < length ids) × ((d : CallId) → list_all (judge.has_call (d ∷ [])) ids ≡ false)

-- the calls of the block's `run`, `done` and `fail` lines are told
pub record IsHere (k : Here) (ends : Ends) : Type 0 where
  pub runs : IsNamed k.runs ends.runs
  pub dones : IsNamed k.dones ends.dones
  pub forgotten : IsNamed k.forgotten ends.forgotten

-- what is due
abbrev pub due_of : Option Delivery → Ends
due_of None = no_ends
due_of (Some d) = ends_of d.packet.id d.runs d.done d.forgotten

-- what a call's spots stand beside, if the call was made
abbrev pub beside_at : Trace → CallId → Option Beside
beside_at t q = option_map (beside q.client t.settings.resend) (call_at t q)

-- a kept spot stands for this one beside these; of a call that wasn't made it is none
abbrev pub StandsOr : Option Beside → Spot → spots.Spot → Type 0
StandsOr None k s = s ≡ no_spot
StandsOr (Some b) k s = StandsFor b k s

-- the two spots that the delivery may be taken back to
abbrev pub AreSpots : Option Beside → Delivery → spots.Undo → Type 0
AreSpots o d u = StandsOr o d.refused u.refused × StandsOr o d.stale u.stale

-- a delivery is kept with what it may be taken back to
pub record IsUndoOf (t : Trace) (d : Delivery) (u : spots.Undo) : Type 0 where
  pub packet : d.packet ≡ packet_of u.packet
  pub spots : AreSpots (beside_at t u.packet.id) d u
  pub due : u.due ≡ ends_of u.packet.id false false d.forgotten

-- the block's delivery, if it has one, is kept so
abbrev pub IsDelivered : Trace → Option Delivery → Option spots.Undo → Type 0
IsDelivered t None None = Unit {0}
IsDelivered t None (Some u) = ⊥
IsDelivered t (Some d) None = ⊥
IsDelivered t (Some d) (Some u) = IsUndoOf t d u

-- what is kept of the block is what its lines say
pub record IsBlock (v : View) (t : Trace) : Type 0 where
  pub undo : Option spots.Undo
  pub is : spots.IsUndo v undo
  pub kept : IsDelivered t t.delivery undo
  pub due : v.now.due ≡ due_of t.delivery
  pub here : IsHere t.here v.here

-- ---- all of it

-- the block, and how many lines there were, aside, what is kept is what the lines say
pub record Keeps (v : View) (t : Trace) : Type 0 where
  pub settings : v.settings ≡ t.settings
  pub wire : Between 1 2 v.settings.wire
  pub tick : v.tick ≡ t.tick
  pub hosts : (h : HostId) → IsHost v h (host_at t h)
  pub listed : (h : HostId) → IsListed v h (host_at t h)
  pub aligned : length t.ids.keys ≡ length t.calls.items
  pub calls : (q : CallId) → IsCallAt v q (call_at t q)
  pub packets : map packet_of v.packets ≡ t.packets.items
  pub made : AreMade v

-- what is kept is what the lines say, which obey all laws
pub record Follows (v : View) (t : Trace) : Type 0 where
  pub place : v.place ≡ t.place
  pub ended : v.ended ≡ t.ended
  pub kept : Keeps v t
  pub block : IsBlock v t
  pub within : IsWithin v
  pub first : v.place ≡ 0 → v ≡ nothing_seen
