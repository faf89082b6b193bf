-- What lines change of what is kept.
use Rattle.std.specs.Prelude.{◌≡◌, ◌&&◌, Bool, Option, IfSome, is_some, true, if◌then◌else◌}
use Rattle.std.specs.Option.{option_map}
use Rattle.homa_plain.specs.declared.id.CallId.{CallId}
use Rattle.homa_plain.specs.declared.id.HostId.{HostId}
use Rattle.homa_plain.specs.Calls.{is_host, is_call}
use Rattle.homa_plain.specs.Entries.{PlainEntry}
use Rattle.trace_rules.specs.View.{View, Sent}
use Rattle.trace_rules.specs.Granting.{IsWithin}
use Rattle.trace_rules.specs.Seen.{seen, delivered}
use Rattle.check_call.specs.Spots as spots
use Rattle.check_call.specs.Steps.{undo_after, undo_of}
use Rattle.check_call.specs.declared.call.Call.{Call}
use Rattle.check_call.specs.declared.spot.Spot.{Spot}
use Rattle.check_call.specs.declared.spot.Change.{Change}
use Rattle.check_call.specs.Kept.{Beside, StandsFor, IsApart, changed}
use Rattle.check_lines.specs.declared.trace.Trace.{Trace}
use Rattle.check_lines.specs.Traces.{host_at, lead_of, first_of, restarts_in, asked_of, awaited_of, beside_at, call_at, Keeps, Follows, IsDelivered}
use Rattle.check_lines.specs.Traces.{IsHere, due_of}

-- ---- what is kept

-- of each host the same is kept, its messages aside
pub record SameHosts (t u : Trace) : Type 0 where
  pub lead : (h : HostId) → lead_of (host_at u h) ≡ lead_of (host_at t h)
  pub first : (h : HostId) → first_of (host_at u h) ≡ first_of (host_at t h)
  pub restarts : (h : HostId) → restarts_in (host_at u h) ≡ restarts_in (host_at t h)

-- each host has the same messages
pub record SameLists (t u : Trace) : Type 0 where
  pub asked : (h : HostId) (q : CallId) → asked_of (host_at u h) q ≡ asked_of (host_at t h) q
  pub awaited : (h : HostId) (q : CallId) → awaited_of (host_at u h) q ≡ awaited_of (host_at t h) q

-- whether a call is noted at a host, where that of one call was noted at one host
abbrev pub noted : HostId → CallId → Bool → (HostId → CallId → Bool) → HostId → CallId → Bool
noted host id is lists h q = if is_host h host && is_call q id then is else lists h q

-- of one call it was noted whether its request is an incoming message of its server, and its response one of its client
pub record Notes (t u : Trace) (id : CallId) (server : HostId) (is_asked is_awaited : Bool) : Type 0 where
  pub asked : (h : HostId) (q : CallId) → asked_of (host_at u h) q ≡ noted server id is_asked (λ h q. asked_of (host_at t h) q) h q
  pub awaited : (h : HostId) (q : CallId) → awaited_of (host_at u h) q ≡ noted id.client id is_awaited (λ h q. awaited_of (host_at t h) q) h q

-- calls, their ids and hosts aside, the same is kept
pub record SameRest (t u : Trace) : Type 0 where
  pub ids : u.ids ≡ t.ids
  pub settings : u.settings ≡ t.settings
  pub place : u.place ≡ t.place
  pub ended : u.ended ≡ t.ended
  pub tick : u.tick ≡ t.tick
  pub packets : u.packets ≡ t.packets
  pub here : u.here ≡ t.here
  pub delivery : u.delivery ≡ t.delivery

-- the spots of each call stand beside the same
abbrev pub SameSets : Trace → Trace → Type 0
SameSets t u = (q : CallId) → beside_at u q ≡ beside_at t q

-- look-ups of calls of which one is changed
abbrev pub call_or : CallId → (Call → Call) → (CallId → Option Call) → CallId → Option Call
call_or id change calls q = if is_call id q then option_map change (calls q) else calls q

-- a kept spot of a call stands for this one, if the call was made
abbrev pub StandsAt : Trace → CallId → Spot → spots.Spot → Type 0
StandsAt t id k s = IfSome (beside_at t id) (λ b. StandsFor b k s)

-- a change of kept spots is this one of spots
pub record ChangesAs (b : Beside) (change : Change) (f : spots.Spot → spots.Spot) : Type 0 where
  pub apart : IsApart b.gap change
  pub same : (k : Spot) (s : spots.Spot) → StandsFor b k s → changed b change s ≡ f s

-- a change of kept spots is this one at a call, if the call was made
abbrev pub IsChange : Trace → CallId → Change → (spots.Spot → spots.Spot) → Type 0
IsChange t id change f = IfSome (beside_at t id) (λ b. ChangesAs b change f)

-- ---- what lines say

-- deliveries and the block aside, lines say the same
pub record SameLines (v w : View) : Type 0 where
  pub settings : w.settings ≡ v.settings
  pub tick : w.tick ≡ v.tick
  pub leads : w.leads ≡ v.leads
  pub firsts : w.firsts ≡ v.firsts
  pub restarts : w.restarts ≡ v.restarts
  pub calls : w.calls ≡ v.calls
  pub packets : w.packets ≡ v.packets
  pub runs : w.runs ≡ v.runs

-- lines say the same, but that one call's spot is changed
pub record Changes (v w : View) (id : CallId) (f : spots.Spot → spots.Spot) : Type 0 where
  pub same : SameLines v w
  pub spots : (q : CallId) → spots.spot w.now q ≡ spots.only id f q (spots.spot v.now q)

-- how many lines there were, and whether one was a last one
pub record SameNumbers (t u : Trace) : Type 0 where
  pub place : u.place ≡ t.place
  pub ended : u.ended ≡ t.ended

-- how many lines there were, whether one was a last one, and the block's `run`, `done` and `fail` lines: the same is kept
pub record SameCount (t u : Trace) : Type 0 where
  pub place : u.place ≡ t.place
  pub ended : u.ended ≡ t.ended
  pub here : u.here ≡ t.here

-- what a line is taken from: what is kept of the lines before, and of the block
pub record Ready (v : View) (o : Option spots.Undo) (t : Trace) : Type 0 where
  pub kept : Keeps v t
  pub is : spots.IsUndo v o
  pub delivered : IsDelivered t t.delivery o
  pub due : v.now.due ≡ due_of t.delivery
  pub here : IsHere t.here v.here

-- what is kept with one line more
pub record Takes (v : View) (o : Option spots.Undo) (line : PlainEntry) (t : Trace) : Type 0 where
  pub kept : Keeps (seen v line) t
  pub delivered : IsDelivered t t.delivery (undo_after v o line)
  pub due : (seen v line).now.due ≡ due_of t.delivery
  pub here : IsHere t.here (seen v line).here

-- a call was made
abbrev pub IsMade : Trace → CallId → Type 0
IsMade t id = is_some (call_at t id) ≡ true

-- a block began with the delivery of a packet, if there is one
pub record IsAfter (v : View) (o : Option Sent) (t : Trace) : Type 0 where
  pub kept : Keeps (delivered v o) t
  pub undo : IsDelivered t t.delivery (option_map (undo_of v) o)
  pub due : (delivered v o).now.due ≡ due_of t.delivery

-- a line was taken: what is kept follows it, if it keeps the windows
pub record IsTaken (v : View) (t : Trace) (line : PlainEntry) (u : Trace) : Type 0 where
  pub kept : Keeps (seen v line) u
  pub follows : IsWithin (seen v line) → Follows (seen v line) u
  pub undo : Option spots.Undo
  pub is : spots.IsUndo v undo
  pub before : IsDelivered t t.delivery undo
  pub behind : IsDelivered u u.delivery (undo_after v undo line)
