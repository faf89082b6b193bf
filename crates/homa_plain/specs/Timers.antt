-- When the timer of a row is due, and what the row does then: RESEND after a silence, NEED_ACK, and the end of a call.
use Rattle.std.specs.Prelude.{ℕ, ◌+◌, ◌&&◌, ◌||◌, Bool, false, nat_lt, nat_le, is_none, if◌then◌else◌, Option, None, Some, List, [], ◌∷◌, ◌++◌}
use Rattle.std.specs.Prelude.{take, filter}
use Rattle.std.specs.List.{flat_map}
use Rattle.plain_sets.specs.Ordered.{ordered}
use Rattle.plain_sets.specs.Maps.{entries}
use Rattle.plain_sets.specs.Ranges.{Range, range}
use Rattle.homa_plain.specs.declared.id.CallId.{CallId}
use Rattle.homa_plain.specs.declared.packet.Body.TheVariants as body
use Rattle.homa_plain.specs.declared.settings.Settings.{Settings}
use Rattle.homa_plain.specs.declared.entry.Why.TheVariants.{Timeout}
use Rattle.homa_plain.specs.Settings.{asking_level}
use Rattle.homa_plain.specs.Incoming.{Incoming, first_gap}
use Rattle.homa_plain.specs.Outgoing.{has_waiting}
use Rattle.homa_plain.specs.Entries.{PlainFail, PlainDrop, PlainFree}
use Rattle.homa_plain.specs.Rows.{ClientRow, ServerRow, State, Receiving, Held, Replying, Buried}
use Rattle.homa_plain.specs.Host.{Host}
use Rattle.homa_plain.specs.Rules.{Moment, Say, Tells, Posts, Did, leaves, says}
use Rattle.homa_plain.specs.AtServer.{with_state, replying}
use Rattle.homa_plain.specs.Tombstones.{replying_acts}

-- ---- deadlines

-- no byte that may already come is missing
abbrev pub has_no_gap : Incoming → Bool
has_no_gap part = is_none (first_gap part)

-- the response was opened, and every byte that may already come has arrived
abbrev pub is_response_at_rest : Option Incoming → Bool
is_response_at_rest None = false
is_response_at_rest (Some part) = has_no_gap part

-- bytes of the request wait and its last byte was never sent, or every byte of the response that may come has arrived
abbrev pub is_client_at_rest : ClientRow → Bool
is_client_at_rest r = nat_lt r.out.top r.out.length && has_waiting r.out || is_response_at_rest r.part

-- a deadline, unless the timer rests
abbrev pub unless : Bool → ℕ → Option ℕ
unless rests at = if rests then None else Some at

-- the deadline of a call's row at its client, unless its timer rests
-- Source: SIGCOMM 2018, "Lost packets" (from memory).
unfoldable pub client_deadline : Settings → ClientRow → Option ℕ
client_deadline s r = unless (is_client_at_rest r) (r.base + s.resend)

-- the deadline in this state: that of its timer, the end of a hold, or the tick after the last of a buried call
-- Source: SIGCOMM 2018, "Lost packets" (from memory).
abbrev pub state_deadline : Settings → State → Option ℕ
state_deadline s (Receiving service part base count) = unless (has_no_gap part) (base + s.resend)
state_deadline s (Held response release) = Some release
state_deadline s (Replying response out order base count) = unless (has_waiting out) (base + s.resend)
state_deadline s (Buried until) = Some (until + 1)

-- the deadline of a call's row at its server, unless its timer rests
unfoldable pub server_deadline : Settings → ServerRow → Option ℕ
server_deadline s row = state_deadline s row.state

-- ---- acts

-- a RESEND of the first gap, at the level of the last rank of all grants
-- Source: SIGCOMM 2018, "Lost packets" (from memory). The level is a rule of this project.
abbrev pub resend_of : Settings → Option Range → List Say
resend_of s None = []
resend_of s (Some r) = Posts (body.Resend r.from r.to (asking_level s)) ∷ []

-- what a client asks for: the first gap of the response or, before any of it arrived, the bytes that need no grant
-- Source: SIGCOMM 2018, "Lost packets" (from memory).
abbrev pub wanted : Settings → Option Incoming → Option Range
wanted s None = Some (range 0 s.unsched)
wanted s (Some part) = first_gap part

-- the client asks again; after `tries` RESENDs since the last renewal the call fails
-- Source: SIGCOMM 2018, "Lost packets" (from memory).
abbrev pub client_acts : Settings → Moment → CallId → ClientRow → Did ClientRow
client_acts s m id r =
    if nat_lt r.count s.tries
    then says m (Some (record r { count = r.count + 1; base = m.now })) (resend_of s (wanted s r.part))
    else says m None (Tells (PlainFail id Timeout) ∷ [])

-- the server asks for missing bytes of the request, and drops it after `tries` RESENDs without an answer
-- Source: SIGCOMM 2018, "Lost packets" (from memory). That the server drops it is a rule of this project.
abbrev pub receiving_acts : Settings → Moment → CallId → ServerRow → ℕ → Incoming → ℕ → Did ServerRow
receiving_acts s m id row service part count =
    if nat_lt count s.tries
    then says m (Some (with_state row (Receiving service part m.now (count + 1)))) (resend_of s (first_gap part))
    else says m None (Tells (PlainDrop m.host id) ∷ [])

-- what a row in this state does when it is due
abbrev pub state_acts : Settings → Moment → CallId → ServerRow → State → Did ServerRow
state_acts s m id row (Receiving service part base count) = receiving_acts s m id row service part count
state_acts s m id row (Held response release) = replying s m.now response row (leaves m None)
state_acts s m id row (Replying response out order base count) = replying_acts s m id row response out order count
state_acts s m id row (Buried until) = says m None (Tells (PlainFree m.host id) ∷ [])

-- what a call's row at its server does when it is due
abbrev pub server_acts : Settings → Moment → CallId → ServerRow → Did ServerRow
server_acts s m id row = state_acts s m id row row.state

-- ---- the rows of a host

-- a row of a host: a call that it made, or one that it serves
pub data Place : Type 0 where
  OfClient : (id : CallId) → Place
  OfServer : (id : CallId) → Place

-- a row whose timer doesn't rest
pub record Timer : Type 0 where
  pub place : Place
  pub at : ℕ  -- its deadline
  pub order : ℕ  -- the row's

-- timers come by deadline, and then by the order of their rows
abbrev pub timer_key : Timer → ℕ × ℕ
timer_key t = (t.at, t.order)

-- the timer of a row with this deadline, or none where it rests
abbrev pub timer : Place → ℕ → Option ℕ → List Timer
timer place order None = []
timer place order (Some at) = record { place = place; at = at; order = order } ∷ []

-- the timers of a host that don't rest
abbrev pub timers : Settings → Host → List Timer
timers s h =
    flat_map (λ (e : CallId × ClientRow). timer (OfClient e.0) e.1.order (client_deadline s e.1)) (entries h.clients)
    ++ flat_map (λ (e : CallId × ServerRow). timer (OfServer e.0) e.1.order (server_deadline s e.1)) (entries h.servers)

-- ---- rows that are due

-- the things whose deadline has come, by deadline and then by order, at most n
abbrev pub first_due : {X : Type 0} → (X → ℕ × ℕ) → ℕ → ℕ → List X → List X
first_due key n now xs = take n (ordered key (filter (λ x. nat_le (key x).0 now) xs))

-- how many rows may act in a turn
abbrev pub most_acts : ℕ
most_acts = 32

-- the rows that act in a turn: the first 32 that are due; the key of a row is its deadline and its order
-- A rule of this project: the bound keeps a step short.
unfoldable pub due : {X : Type 0} → (X → ℕ × ℕ) → ℕ → List X → List X
due key now xs = first_due key most_acts now xs
