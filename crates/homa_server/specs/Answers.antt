-- What a server's answers say of the plain rules.
use Rattle.std.specs.Prelude.{◌≡◌, ◌+◌, ◌==◌, ◌&&◌, ◌||◌, ◌<◌, ◌≤◌, not, IsSome, if◌then◌else◌, ℕ, Bool, true, false, Option, Some, None, List}
use Rattle.std.specs.Prelude.{[], ◌∷◌, length}
use Rattle.homa_plain.specs.declared.id.CallId.{CallId}
use Rattle.homa_plain.specs.declared.packet.Body.{Body}
use Rattle.homa_plain.specs.declared.packet.Body.TheVariants as body
use Rattle.homa_plain.specs.declared.settings.Settings.{Settings}
use Rattle.homa_plain.specs.Settings.{asking_level}
use Rattle.homa_plain.specs.declared.row.Emitted.{Emitted}
use Rattle.homa_plain.specs.declared.row.Emitted.TheVariants.{Rests}
use Rattle.homa_plain.specs.declared.row.OutFacts.{OutFacts}
use Rattle.homa_plain.specs.declared.row.RowFacts.{RowFacts}
use Rattle.homa_plain.specs.Entries.{PlainRun, PlainBury, PlainFullRows, PlainFullPages, PlainGaps, PlainDrop, PlainFree}
use Rattle.homa_plain.specs.Outgoing.{next_range, left, has_waiting}
use Rattle.homa_plain.specs.Rows.{ServerRow, State, Receiving, Held, Replying, Buried}
use Rattle.homa_plain.specs.Rules.{Moment, Answer, Piece, Say, Tells, Posts, Did, leaves, says, opening}
use Rattle.homa_plain.specs.Steps.{Asked}
use Rattle.homa_plain.specs.Timers.{state_deadline}
use Rattle.homa_plain.specs.Sending.{state_sends}
use Rattle.msg_pool.specs.Pool.{Pool}
use Rattle.homa_in.specs.Pooled.{IsInPool}
use Rattle.homa_in.specs.Part.{Part}
use Rattle.homa_server.specs.Held.{HeldState, HeldServer, Arriving, Keeping, Answering, Gone, state_part, seen_state, seen_server}
use Rattle.homa_in.specs.Pieces.{first_version, size_in, opening_if}
use Rattle.homa_in.specs.Sends.{emits, is_sent}
use Rattle.homa_server.specs.declared.answers.ServerDid.{ServerDid}
use Rattle.homa_server.specs.declared.answers.ServerDid.TheVariants as did
use Rattle.homa_server.specs.declared.answers.ServerAct.{ServerAct}
use Rattle.homa_server.specs.declared.answers.ServerAct.TheVariants as act
use Rattle.homa_plain.specs.Limits.{longest_hold, longest_message}

-- ---- packets

-- whether it is a piece of a message
abbrev pub is_data : Body → Bool
is_data (body.Data size offset version service ack) = true
is_data what = false

-- whether it asks for bytes again
abbrev pub is_resend : Body → Bool
is_resend (body.Resend from to prio) = true
is_resend what = false

-- whether it says that calls are over
abbrev pub is_ack : Body → Bool
is_ack (body.Ack more) = true
is_ack what = false

-- whether it is for a request that arrives: a piece of it, RESEND or BUSY
abbrev pub is_for_request : ℕ → Part → Body → Bool
is_for_request service part (body.Data size offset version number ack) = part.length == size && service == number
is_for_request service part (body.Resend from to prio) = true
is_for_request service part body.Busy = true
is_for_request service part what = false

-- whether it is for a row in this state: a response that is held back takes RESEND alone, one that goes out all but ACK, and a
-- tombstone DATA and RESEND
abbrev pub is_for : Body → HeldState → Bool
is_for what (Arriving service part base count) = is_for_request service part what
is_for what (Keeping response release) = is_resend what
is_for what (Answering response out order base count) = not (is_ack what)
is_for what (Gone until) = is_data what || is_resend what

-- the row's slot, where the packet is for it
abbrev pub slot_if : Bool → ℕ → Option ℕ
slot_if is slot = if is then Some slot else None

-- the service that a piece is for
abbrev pub service_in : Option Piece → ℕ
service_in None = 0
service_in (Some p) = p.service

-- the version in a first piece, where its request arrives
abbrev pub version_in_state : Option Piece → State → Option ℕ
version_in_state piece (Receiving service part base count) = first_version piece
version_in_state piece (Held response release) = None
version_in_state piece (Replying response out order base count) = None
version_in_state piece (Buried until) = None

-- the same where the call has a row, by the row's state
abbrev pub version_there : Option Piece → Option ServerRow → Option ℕ
version_there piece None = None
version_there piece (Some row) = version_in_state piece row.state

-- the reason of an UNKNOWN: a tombstone is in this slot, or there is no record of the call
abbrev pub reason_for : Option ℕ → ℕ
reason_for None = 0
reason_for (Some slot) = 1

-- What the plain rule did where this is answered: `row` is the call's row afterwards, `told` the request that became
-- whole, and `a` what the service answered.
abbrev pub served_of : Settings → Moment → CallId → Option Piece → Option ServerRow → List ℕ → Answer → ServerDid → Did ServerRow
served_of s m id piece row told a did.Nothing = leaves m row
served_of s m id piece row told a (did.Touched slot) = record (leaves m row) { version = version_there piece row }
served_of s m id piece row told a (did.Opened slot) = record (opening (size_in piece) (leaves m row)) { version = first_version piece }
served_of s m id piece row told a (did.Ran slot opened hold) =
    let d = opening_if opened (size_in piece) (leaves m row) in
    record d {
      order = (if hold == 0 then d.order + 1 else d.order);
      version = first_version piece;
      says = Tells (PlainRun m.host id (service_in piece) told a.bytes hold) ∷ [];
    }
served_of s m id piece row told a (did.FullRows rows) = says m row (Tells (PlainFullRows m.host id rows s.served) ∷ [])
served_of s m id piece row told a (did.FullPages need free) = says m row (Tells (PlainFullPages m.host id need free) ∷ [])
served_of s m id piece row told a (did.Gaps slot) = record (leaves m row) { version = first_version piece; says = Tells (PlainGaps m.host id) ∷ [] }
served_of s m id piece row told a (did.Busy slot) = says m row (Posts body.Busy ∷ [])
served_of s m id piece row told a (did.Unknown slot) = says m row (Posts (body.Unknown (reason_for slot)) ∷ [])

-- the slot that an answer names is the place of the call's row
abbrev pub IsSlotOf : Option ℕ → ServerDid → Type 0
IsSlotOf place did.Nothing = Unit {0}
IsSlotOf place (did.Touched slot) = place ≡ Some slot
IsSlotOf place (did.Opened slot) = place ≡ Some slot
IsSlotOf place (did.Ran slot opened hold) = place ≡ Some slot
IsSlotOf place (did.FullRows rows) = Unit {0}
IsSlotOf place (did.FullPages need free) = Unit {0}
IsSlotOf place (did.Gaps slot) = place ≡ Some slot
IsSlotOf place (did.Busy slot) = place ≡ Some slot
IsSlotOf place (did.Unknown slot) = place ≡ slot

-- that slot, where it names one; an answer that names none leaves all as it was
abbrev pub slot_in : ServerDid → Option ℕ
slot_in did.Nothing = None
slot_in (did.Touched slot) = Some slot
slot_in (did.Opened slot) = Some slot
slot_in (did.Ran slot opened hold) = Some slot
slot_in (did.FullRows rows) = None
slot_in (did.FullPages need free) = None
slot_in (did.Gaps slot) = Some slot
slot_in (did.Busy slot) = Some slot
slot_in (did.Unknown slot) = slot

-- whether the service ran
abbrev pub has_run : ServerDid → Bool
has_run did.Nothing = false
has_run (did.Touched slot) = false
has_run (did.Opened slot) = false
has_run (did.Ran slot opened hold) = true
has_run (did.FullRows rows) = false
has_run (did.FullPages need free) = false
has_run (did.Gaps slot) = false
has_run (did.Busy slot) = false
has_run (did.Unknown slot) = false

-- a fact of the hold, where the service ran
abbrev pub IfRan : ServerDid → (ℕ → Type 0) → Type 0
IfRan did.Nothing P = Unit {0}
IfRan (did.Touched slot) P = Unit {0}
IfRan (did.Opened slot) P = Unit {0}
IfRan (did.Ran slot opened hold) P = P hold
IfRan (did.FullRows rows) P = Unit {0}
IfRan (did.FullPages need free) P = Unit {0}
IfRan (did.Gaps slot) P = Unit {0}
IfRan (did.Busy slot) P = Unit {0}
IfRan (did.Unknown slot) P = Unit {0}

-- what the service answered is this response, with the hold that is told; where it wasn't asked, anything
abbrev pub IsReply : List ℕ → Answer → ServerDid → Type 0
IsReply response a answer = IfRan answer (λ hold. a ≡ record { bytes = response; hold = hold })

-- a row can take this response with this hold
pub record CanReply (response : List ℕ) (ticks : ℕ) : Type 0 where
  pub some : 0 < length response
  pub size : length response ≤ longest_message
  pub hold : ticks ≤ longest_hold

-- for each answer of the service that is the response in the row, where it ran, the plain rule did what is answered
abbrev pub IsAnswered : Settings → Moment → CallId → Option Piece → (Answer → Did ServerRow) → Option ServerRow → List ℕ → List ℕ → ServerDid → Type 0
IsAnswered s m id piece plain row response told answer = (a : Answer) → IsReply response a answer → plain a ≡ served_of s m id piece row told a answer

-- what the service is asked by what a rule says, if it is: what its first `run` line says
abbrev pub asked_said : List Say → Option Asked
asked_said [] = None
asked_said (Tells (PlainRun host id service request response hold) ∷ said) = Some (record { id = id; service = service; request = request })
asked_said (say ∷ said) = asked_said said

-- a rule asks the service with this number for a call, with this request
abbrev pub IsAsked : CallId → ℕ → List ℕ → Did ServerRow → Type 0
IsAsked id number request d = asked_said d.says ≡ Some (record { id = id; service = number; request = request })

-- what the plain rule did at an ACK, where the call was buried up to a tick, or wasn't
abbrev pub acked_of : Moment → CallId → Option ServerRow → Option ℕ → Did ServerRow
acked_of m id row None = leaves m row
acked_of m id row (Some until) = says m row (Tells (PlainBury m.host id until) ∷ [])

-- ---- acts

-- what the plain rule did where a row whose timer was due answers this
abbrev pub acted_of : Settings → Moment → CallId → Option ServerRow → ServerAct → Did ServerRow
acted_of s m id row (act.Resend from to) = says m row (Posts (body.Resend from to (asking_level s)) ∷ [])
acted_of s m id row (act.Drop q) = says m row (Tells (PlainDrop m.host q) ∷ [])
acted_of s m id row act.Release = record (leaves m row) { order = m.order + 1 }
acted_of s m id row act.NeedAck = says m row (Posts body.NeedAck ∷ [])
acted_of s m id row (act.Bury q until) = says m row (Tells (PlainBury m.host q until) ∷ [])
acted_of s m id row (act.Free q) = says m row (Tells (PlainFree m.host q) ∷ [])

-- whether the row goes
abbrev pub goes : ServerAct → Bool
goes (act.Resend from to) = false
goes (act.Drop q) = true
goes act.Release = false
goes act.NeedAck = false
goes (act.Bury q until) = false
goes (act.Free q) = true

-- after an act that ends it the call has no row, and else its row stands
abbrev pub HasServerActed : ServerAct → Option ServerRow → Type 0
HasServerActed (act.Resend from to) row = IsSome row
HasServerActed (act.Drop q) row = row ≡ None
HasServerActed act.Release row = IsSome row
HasServerActed act.NeedAck row = IsSome row
HasServerActed (act.Bury q until) row = IsSome row
HasServerActed (act.Free q) row = row ≡ None

-- a fact of the bytes that are asked for
abbrev pub IfResend : ServerAct → (ℕ → ℕ → Type 0) → Type 0
IfResend (act.Resend from to) P = P from to
IfResend (act.Drop q) P = Unit {0}
IfResend act.Release P = Unit {0}
IfResend act.NeedAck P = Unit {0}
IfResend (act.Bury q until) P = Unit {0}
IfResend (act.Free q) P = Unit {0}

-- the row afterwards, where it stays
abbrev pub after_act : Pool → HeldServer → ServerAct → Option ServerRow
after_act pool row answer = if goes answer then None else Some (seen_server pool row)

-- with some pool, the row's timer runs
pub record HasTimer (s : Settings) (row : HeldServer) : Type 0 where
  pub pool : Pool
  pub within : IsInPool pool (state_part row.state)
  pub runs : IsSome (state_deadline s (seen_state pool row.state))

-- ---- sending

-- the part of a request that arrives may be granted up to an offset
abbrev pub IsGrantable : HeldState → ℕ → Type 0
IsGrantable (Arriving service part base count) offset = (part.granted ≤ offset) × (offset ≤ part.length)
IsGrantable (Keeping response release) offset = ⊥
IsGrantable (Answering response out order base count) offset = ⊥
IsGrantable (Gone until) offset = ⊥

-- a response is sent from where its next piece is paid for
abbrev pub state_emits : Settings → ℕ → State → Emitted
state_emits s credit (Receiving service part base count) = Rests
state_emits s credit (Held response release) = Rests
state_emits s credit (Replying response out order base count) = emits credit (next_range out s.seg)
state_emits s credit (Buried until) = Rests

-- the row of a response of which the next piece was sent, or not
abbrev pub server_sends : Settings → ℕ → ServerRow → Emitted → ServerRow
server_sends s now r e = if is_sent e then record r { state = state_sends s now r.state } else r

-- a GRANT or a RESEND asks for bytes at a level
abbrev pub IsAsking : Body → Type 0
IsAsking (body.Grant offset prio) = prio ≤ 7
IsAsking (body.Resend from to prio) = (from < to) × (prio ≤ 7)
IsAsking what = Unit {0}

-- ---- facts

-- what is told of the response that is sent, if the state has one
abbrev pub out_facts : HeldState → Option OutFacts
out_facts (Arriving service part base count) = None
out_facts (Keeping response release) = None
out_facts (Answering response out order base count) =
    Some (record { length = out.length; service = 0; left = left out; order = order; prio = out.prio; waiting = has_waiting out })
out_facts (Gone until) = None

-- the facts of a row
abbrev pub server_facts : CallId → HeldServer → RowFacts
server_facts id r = record { id = id; peer = id.client; order = r.order; out = out_facts r.state }
