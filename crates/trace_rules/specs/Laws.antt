-- What every trace obeys: once, returned, handed up, fails. Each law is judged at a line, by what the lines before it say.
use Rattle.std.specs.Prelude.{◌≡◌, ℕ, ◌+◌, ◌≤◌, ◌==◌, ◌&&◌, Bool, true, false, ◌↔◌, Option, None, Some, List, [], ◌∷◌, length, map, filter, Contains}
use Rattle.std.specs.Option.{option_map_or}
use Rattle.plain_sets.specs.Maps.{get}
use Rattle.homa_plain.specs.declared.id.CallId.{CallId}
use Rattle.homa_plain.specs.declared.packet.Body.{Body}
use Rattle.homa_plain.specs.declared.packet.Body.TheVariants as body
use Rattle.homa_plain.specs.declared.entry.Why.TheVariants.{Timeout}
use Rattle.homa_plain.specs.Entries.{PlainEntry, PlainRun, PlainDone, PlainFail}
use Rattle.homa_plain.specs.Wire.{is_server}
use Rattle.homa_plain.specs.Calls.{is_call}
use Rattle.trace_rules.specs.Lines.{closes}
use Rattle.trace_rules.specs.View.{Sent, Ran, View, own_tick, incarnation, is_server_of, has_run, resends_of}
use Rattle.trace_rules.specs.Seen.{seen}

-- a law holds at each of these lines, judged by the lines before it and the line itself
abbrev pub Holds : (View → PlainEntry → Type 0) → View → List PlainEntry → Type 0
Holds law v [] = Unit {0}
Holds law v (line ∷ lines) = law v line × Holds law (seen v line) lines

-- ---- once

-- Once. A call runs at most once in each life of its server, with the service and on the request of its `call` line.
-- A rule of this project. In SIGCOMM 2018, "At-least-once semantics" (from memory), a call may run again.
abbrev pub Once : View → PlainEntry → Type 0
Once v (PlainRun host id service request response hold) =
    (has_run v host id ≡ false) × (get v.calls id ≡ Some (record { server = host; service = service; request = request }))
Once v line = Unit {0}

-- ---- returned

-- whether a run is of this call, at the call's server, in a life of this incarnation
abbrev pub is_run_in : View → CallId → ℕ → Ran → Bool
is_run_in v id inc r = is_call r.id id && is_server_of v id r.host && option_map_or (λ i. i == inc) (incarnation v r.host r.life) false

-- the responses of a call's runs in lives of this incarnation
abbrev pub answers : View → CallId → ℕ → List (List ℕ)
answers v id inc = map (λ r. r.response) (filter (is_run_in v id inc) v.runs)

-- the packet is DATA
abbrev pub is_data : Body → Bool
is_data (body.Data size offset version service ack) = true
is_data other = false

-- the packet is a piece of a response, and the bytes are what the call answered in the life that sent it
abbrev pub IsReturned : View → CallId → List ℕ → Option Sent → Type 0
IsReturned v id bytes None = ⊥
IsReturned v id bytes (Some p) = (is_server p.role ≡ true) × (is_data p.body ≡ true) × Contains (answers v id p.inc) bytes

-- Returned. A call is done in the block of a response's delivery, with the response of its run in the life that sent the packet.
abbrev pub Returned : View → PlainEntry → Type 0
Returned v (PlainDone id bytes) = IsReturned v id bytes v.now.came
Returned v line = Unit {0}

-- ---- handed up

-- two lists name the same calls
abbrev pub SameCalls : List CallId → List CallId → Type 0
SameCalls xs ys = (id : CallId) → Contains xs id ↔ Contains ys id

-- Handed up. In a closed block exactly those calls run, and exactly those are done, whose message its delivery makes whole.
abbrev pub HandedUp : View → PlainEntry → Type 0
HandedUp v line = closes line ≡ true → SameCalls v.here.runs v.now.due.runs × SameCalls v.here.dones v.now.due.dones

-- ---- fails

-- of ticks of which the latest is the first, each is at least a gap above the one before it
abbrev pub AreSpaced : ℕ → List ℕ → Type 0
AreSpaced gap [] = Unit {0}
AreSpaced gap (t ∷ []) = Unit {0}
AreSpaced gap (t ∷ u ∷ ticks) = (u + gap ≤ t) × AreSpaced gap (u ∷ ticks)

-- since a call's last renewal `tries` RESENDs were sent, each `resend` ticks or more after the one before by the
-- client's clock, and now as many ticks have passed since the last
abbrev pub IsUnanswered : View → CallId → Type 0
IsUnanswered v id = let ticks = resends_of v.now id in (length ticks ≡ v.settings.tries) × AreSpaced v.settings.resend (own_tick v id.client ∷ ticks)

-- Fails. A call times out only when it is unanswered. In a closed block exactly the call fails as forgotten of which an UNKNOWN that counts says so.
abbrev pub Fails : View → PlainEntry → Type 0
Fails v (PlainFail id Timeout) = IsUnanswered v id
Fails v line = closes line ≡ true → SameCalls v.here.forgotten v.now.due.forgotten
