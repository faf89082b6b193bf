-- A trace judged line by line: the laws as tests, and the first line that breaks one.
use Rattle.std.specs.Prelude.{◌≡◌, ℕ, ◌+◌, ◌==◌, ◌&&◌, ◌||◌, Bool, true, false, not, nat_lt, nat_le, if◌then◌else◌, Option, None, Some, is_ok, List}
use Rattle.std.specs.Prelude.{[], ◌∷◌, ◌++◌, length}
use Rattle.std.specs.Option.{option_map_or}
use Rattle.std.specs.List.{list_any, list_all}
use Rattle.std.specs.Str.{bytes_eq}
use Rattle.plain_sets.specs.Maps.{get, contains_key, len, values}
use Rattle.homa_plain.specs.declared.id.CallId.{CallId}
use Rattle.homa_plain.specs.declared.id.HostId.{HostId}
use Rattle.homa_plain.specs.declared.packet.Role.{Role}
use Rattle.homa_plain.specs.declared.packet.Role.TheVariants.{Client, Server}
use Rattle.homa_plain.specs.declared.packet.Body.{Body}
use Rattle.homa_plain.specs.declared.packet.Body.TheVariants as body
use Rattle.homa_plain.specs.declared.entry.Why.TheVariants.{Timeout}
use Rattle.homa_plain.specs.declared.fault.LineFault.{LineFault}
use Rattle.homa_plain.specs.declared.fault.LineFault.TheVariants.{World}
use Rattle.homa_plain.specs.declared.fault.WorldFault.TheVariants.{NoMemory}
use Rattle.homa_plain.specs.Entries.{PlainEntry, PlainSettings, PlainCall, PlainDeliver, PlainSend, PlainRun, PlainDone, PlainFail, PlainRefused}
use Rattle.homa_plain.specs.Settings.{verdict}
use Rattle.homa_plain.specs.Wire.{is_between, is_client, is_server}
use Rattle.homa_plain.specs.Calls.{is_host, is_call}
use Rattle.trace_rules.specs.Lines.{named, closes}
use Rattle.trace_rules.specs.Parts.{Part, is_message}
use Rattle.trace_rules.specs.View.{Called, Sent, View, nothing_seen, own_tick, has_run, resends_of}
use Rattle.trace_rules.specs.Seen.{seen, seen_all}
use Rattle.trace_rules.specs.Shape.{Shape}
use Rattle.trace_rules.specs.Laws.{Holds, Once, Returned, HandedUp, Fails, answers, is_data}
use Rattle.trace_rules.specs.Granting.{Grant, allowed, Granting}
use Rattle.homa_plain.specs.Limits.{longest_message}

-- ---- the test of the shape

-- a line comes after the first one, and after no last one
abbrev pub is_behind : View → Bool
is_behind v = nat_lt 0 v.place && not v.ended

-- a call is new, its request is a message, and its client and its server are two hosts of the run
abbrev pub is_new_call : View → CallId → HostId → List ℕ → Bool
is_new_call v id server request =
    not (contains_key v.calls id) && is_between 1 longest_message (length request)
    && nat_lt id.client.0 v.settings.hosts && nat_lt server.0 v.settings.hosts && not (is_host id.client server)

-- the call that a line names, if it names one, was made before
abbrev pub is_made : View → Option CallId → Bool
is_made v None = true
is_made v (Some id) = contains_key v.calls id

-- a line may be refused for this
abbrev pub is_cause : LineFault → Bool
is_cause (World NoMemory) = false
is_cause fault = true

-- Shape
abbrev pub has_shape : View → PlainEntry → Bool
has_shape v (PlainSettings settings) = v.place == 0 && is_ok (verdict settings)
has_shape v (PlainCall id server service bytes) = is_behind v && is_new_call v id server bytes
has_shape v (PlainDeliver packet) = is_behind v && nat_lt packet (length v.packets)
has_shape v (PlainSend number from to inc role id level body payload) = is_behind v && number == length v.packets && is_made v (Some id)
has_shape v (PlainRefused line fault) = is_behind v && is_cause fault
has_shape v line = is_behind v && is_made v (named line)

-- ---- the tests of the laws

-- a call was made to this server and service, with this request
abbrev pub is_called : HostId → ℕ → List ℕ → Called → Bool
is_called host service request c = is_host c.server host && c.service == service && bytes_eq c.request request

-- Once
abbrev pub runs_once : View → PlainEntry → Bool
runs_once v (PlainRun host id service request response hold) = not (has_run v host id) && option_map_or (is_called host service request) (get v.calls id) false
runs_once v line = true

-- the packet is a piece of a response, and the bytes are what the call answered in the life that sent it
abbrev pub is_returned : View → CallId → List ℕ → Option Sent → Bool
is_returned v id bytes None = false
is_returned v id bytes (Some p) = is_server p.role && is_data p.body && list_any (bytes_eq bytes) (answers v id p.inc)

-- Returned
abbrev pub returns_answer : View → PlainEntry → Bool
returns_answer v (PlainDone id bytes) = is_returned v id bytes v.now.came
returns_answer v line = true

-- a call is one of these
abbrev pub has_call : List CallId → CallId → Bool
has_call ids id = list_any (is_call id) ids

-- two lists name the same calls
abbrev pub are_same_calls : List CallId → List CallId → Bool
are_same_calls xs ys = list_all (has_call ys) xs && list_all (has_call xs) ys

-- Handed up
abbrev pub hands_up : View → PlainEntry → Bool
hands_up v line = not (closes line) || (are_same_calls v.here.runs v.now.due.runs && are_same_calls v.here.dones v.now.due.dones)

-- of ticks of which the latest is the first, each is at least a gap above the one before it
abbrev pub are_spaced : ℕ → List ℕ → Bool
are_spaced gap [] = true
are_spaced gap (t ∷ []) = true
are_spaced gap (t ∷ u ∷ ticks) = nat_le (u + gap) t && are_spaced gap (u ∷ ticks)

-- since a call's last renewal `tries` RESENDs were sent, each `resend` ticks or more after the one before by the
-- client's clock, and now as many ticks have passed since the last
abbrev pub is_unanswered : View → CallId → Bool
is_unanswered v id = let ticks = resends_of v.now id in length ticks == v.settings.tries && are_spaced v.settings.resend (own_tick v id.client ∷ ticks)

-- Fails
abbrev pub fails_in_time : View → PlainEntry → Bool
fails_in_time v (PlainFail id Timeout) = is_unanswered v id
fails_in_time v line = not (closes line) || are_same_calls v.here.forgotten v.now.due.forgotten

-- two are one role
abbrev pub is_role : Role → Role → Bool
is_role Client b = is_client b
is_role Server b = is_server b

-- two are one GRANT
abbrev pub is_grant : Grant → Grant → Bool
is_grant g h = is_host g.to h.to && is_role g.role h.role && is_call g.id h.id && g.offset == h.offset && g.prio == h.prio

-- a packet that is a GRANT is one of those that its host may send
abbrev pub is_allowed : View → HostId → HostId → Role → CallId → Body → Bool
is_allowed v from to role id (body.Grant offset prio) =
    list_any (is_grant (record { to = to; role = role; id = id; offset = offset; prio = prio })) (allowed v from)
is_allowed v from to role id other = true

-- no more than a window is granted of a message beyond as many bytes as have arrived
abbrev pub is_within_at : ℕ → Part → Bool
is_within_at window p = not (is_message p) || nat_le p.granted (len p.arrived + window)

-- each message is within its window
abbrev pub is_within : View → Bool
is_within v = list_all (is_within_at v.settings.window) (values v.now.requests) && list_all (is_within_at v.settings.window) (values v.now.responses)

-- Granting
abbrev pub grants_chosen : View → PlainEntry → Bool
grants_chosen v (PlainSend number from to inc role id level body payload) =
    is_allowed v from to role id body && is_within (seen v (PlainSend number from to inc role id level body payload))
grants_chosen v line = is_within (seen v line)

-- ---- the first line that breaks a law

-- the clauses in the order in which a line is judged by them
pub data Clause : Type 0 where
  ShapeClause : Clause
  OnceClause : Clause
  ReturnedClause : Clause
  HandedUpClause : Clause
  FailsClause : Clause
  GrantingClause : Clause

-- the first clause that fails at a line
unfoldable pub judged : View → PlainEntry → Option Clause
judged v line =
    if not (has_shape v line) then Some ShapeClause
    else if not (runs_once v line) then Some OnceClause
    else if not (returns_answer v line) then Some ReturnedClause
    else if not (hands_up v line) then Some HandedUpClause
    else if not (fails_in_time v line) then Some FailsClause
    else if not (grants_chosen v line) then Some GrantingClause
    else None

-- a line with the clause that fails there; if none fails, what is found after it
abbrev pub found_or : ℕ → Option Clause → Option (ℕ × Clause) → Option (ℕ × Clause)
found_or k None rest = rest
found_or k (Some clause) rest = Some (k, clause)

-- the first line that breaks a law, and the first clause that fails there, after lines that said v
abbrev pub first_from : View → List PlainEntry → Option (ℕ × Clause)
first_from v [] = None
first_from v (line ∷ lines) = found_or (v.place + 1) (judged v line) (first_from (seen v line) lines)

-- the first line of a trace that breaks a law, counted from 1, and the first clause that fails there
abbrev pub first_broken : List PlainEntry → Option (ℕ × Clause)
first_broken lines = first_from nothing_seen lines

-- ---- what that says

-- a line has the shape and obeys the five laws
pub record Obeys (v : View) (line : PlainEntry) : Type 0 where
  pub shape : Shape v line
  pub once : Once v line
  pub returned : Returned v line
  pub handed_up : HandedUp v line
  pub fails : Fails v line
  pub granting : Granting v line

-- this clause fails at a line, and those before it hold there
abbrev pub FailsFirst : View → PlainEntry → Clause → Type 0
FailsFirst v line ShapeClause = ¬ Shape v line
FailsFirst v line OnceClause = Shape v line × (¬ Once v line)
FailsFirst v line ReturnedClause = Shape v line × Once v line × (¬ Returned v line)
FailsFirst v line HandedUpClause = Shape v line × Once v line × Returned v line × (¬ HandedUp v line)
FailsFirst v line FailsClause = Shape v line × Once v line × Returned v line × HandedUp v line × (¬ Fails v line)
FailsFirst v line GrantingClause = Shape v line × Once v line × Returned v line × HandedUp v line × Fails v line × (¬ Granting v line)

-- line k is the first that breaks a law, and this clause is the first that fails there
pub record IsFirstBroken (lines : List PlainEntry) (k : ℕ) (clause : Clause) : Type 0 where
  pub before : List PlainEntry
  pub line : PlainEntry
  pub behind : List PlainEntry
  pub parts : lines ≡ before ++ line ∷ behind
  pub number : k ≡ length before + 1
  pub obeyed : Holds Obeys nothing_seen before
  pub broken : FailsFirst (seen_all nothing_seen before) line clause
