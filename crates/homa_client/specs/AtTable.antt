-- The table of a client's calls, and what its calls do.
use Rattle.std.specs.Prelude.{◌≡◌, ◌+◌, ◌<◌, ◌≤◌, ℕ, ◌==◌, ◌&&◌, not, true, nat_lt, nat_le, if◌then◌else◌, Option, Some, None, List, [], ◌∷◌, length}
use Rattle.std.specs.Prelude.{IsSome, IsSomeAnd, refl}
use Rattle.std.specs.Option.{option_map, option_and_then}
use Rattle.std.specs.Coded.{Coded, code_by, coded×, coded_ℕ}
use Rattle.plain_sets.specs.Maps.{get, insert, remove, len}
use Rattle.homa_plain.specs.declared.id.CallId.{CallId}
use Rattle.homa_plain.specs.declared.id.HostId.{HostId}
use Rattle.homa_plain.specs.contracts.id.HostId as host_id
use Rattle.homa_plain.specs.declared.packet.Body.TheVariants as body
use Rattle.homa_plain.specs.declared.settings.Settings.{Settings}
use Rattle.homa_plain.specs.contracts.settings.Settings as settings
use Rattle.homa_plain.specs.Settings.{IsValid}
use Rattle.homa_plain.specs.declared.fault.StartFault.{StartFault}
use Rattle.homa_plain.specs.declared.fault.StartFault.TheVariants.{Empty, TooLong, SelfCall, CallsFull, SeqSpent}
use Rattle.homa_plain.specs.declared.entry.Why.TheVariants.{Forgotten as WhyForgotten}
use Rattle.homa_plain.specs.Calls.{is_host}
use Rattle.homa_plain.specs.Entries.{PlainDone, PlainFail, PlainFullPages, PlainGaps}
use Rattle.homa_plain.specs.Packets.{Packet, sender}
use Rattle.homa_plain.specs.Rows.{ClientRow, RowsOf, set_row}
use Rattle.homa_plain.specs.Rules.{Moment, Piece, Tells, Posts, Did, leaves, says, opening}
use Rattle.homa_plain.specs.AtClient.{client_gets}
use Rattle.homa_plain.specs.Timers.{client_deadline}
use Rattle.homa_plain.specs.Steps.{new_call}
use Rattle.msg_pool.specs.Pool.{Pool}
use Rattle.homa_in.specs.Part.{Part}
use Rattle.host_places.specs.Mapped.{mapped}
use Rattle.host_places.specs.Placed.{Placed, Table, StandsAt, IsFree, Changed, spot_at, rows_code}
use Rattle.homa_in.specs.Pooled.{Moves}
use Rattle.homa_in.specs.Pieces.{piece_in, first_version, version_in, size_in, opening_if}
use Rattle.homa_client.specs.Held.{HeldRow, row_code, seen_row}
use Rattle.homa_client.specs.Gives.{moment_of}
use Rattle.homa_client.specs.declared.answers.ClientDid.{ClientDid}
use Rattle.homa_client.specs.declared.answers.ClientDid.TheVariants as did
use Rattle.homa_client.specs.declared.answers.ClientAct.{ClientAct}
use Rattle.homa_client.specs.declared.answers.ClientAct.TheVariants as act
use Rattle.homa_client.specs.declared.answers.RowDid.{RowDid}
use Rattle.homa_client.specs.declared.answers.RowDid.TheVariants as row
use Rattle.homa_plain.specs.Limits.{longest_message}

-- the rows of a client at their places, by their calls
abbrev pub HeldRows : Type 0
HeldRows = RowsOf (Placed HeldRow)

-- a client's table
pub record Clients : Type 0 where
  pub host : HostId  -- the client
  pub inc : ℕ  -- its incarnation
  pub seq : ℕ  -- the sequence number of the next call
  pub settings : Settings
  pub rows : HeldRows

-- a table is stored as the tuple of its fields
abbrev pub clients_code : Coded Clients
clients_code =
    code_by (HostId × (ℕ × (ℕ × (Settings × HeldRows))))
    (coded× host_id.the_row.coded (coded× coded_ℕ (coded× coded_ℕ (coded× settings.the_row.coded (rows_code row_code)))))
    (λ t. (t.host, (t.inc, (t.seq, (t.settings, t.rows)))))
    (λ c. record { host = c.0; inc = c.1.0; seq = c.1.1.0; settings = c.1.1.1.0; rows = c.1.1.1.1 }) (λ _. refl)

-- the plain rows that the rows are with their pool
abbrev pub seen_rows : Pool → HeldRows → RowsOf ClientRow
seen_rows pool rows = mapped (λ (x : Placed HeldRow). seen_row pool x.row) rows

-- the plain row of a call, if it has one
abbrev pub row_at : Pool → HeldRows → CallId → Option ClientRow
row_at pool rows id = option_map (λ (x : Placed HeldRow). seen_row pool x.row) (get rows id)

-- the part of a call's response, if there is one
abbrev pub part_at : HeldRows → CallId → Option Part
part_at rows id = option_and_then (λ (x : Placed HeldRow). x.row.part) (get rows id)

-- the place of a call's row
abbrev pub place_at : HeldRows → CallId → Option ℕ
place_at rows id = option_map (λ (x : Placed HeldRow). x.place) (get rows id)

-- a call that this incarnation of the client made
pub record IsOwnCall (host : HostId) (inc seq : ℕ) (id : CallId) : Type 0 where
  pub of_host : id.client ≡ host
  pub of_life : id.inc ≡ inc
  pub past : id.seq < seq

-- what holds of each table
pub record IsTable (host : HostId) (inc seq : ℕ) (s : Settings) (t : Table HeldRow) : Type 0 where
  pub valid : IsValid s
  pub room : t.room ≡ s.calls
  pub own : (id : CallId) (x : Placed HeldRow) → get t.rows id ≡ Some x → IsOwnCall host inc seq id

-- ---- what a call does

-- A call's plain row became this one, or went, and of the pool only its own part changed. All other plain rows and their places stay.
pub record Moved (id : CallId) (old : Clients) (pool : Pool) (new : Clients) (pool' : Pool) (row : Option ClientRow) : Type 0 where
  pub here : row_at pool' new.rows id ≡ row
  pub rows : seen_rows pool' new.rows ≡ set_row (seen_rows pool old.rows) id row
  pub changed : Changed id old.rows new.rows
  pub moves : Moves pool (part_at old.rows id) pool' (part_at new.rows id)
  pub kept : new ≡ record old { rows = new.rows }

-- ---- a packet comes

-- the place that an answer names
abbrev pub slot_in : ClientDid → Option ℕ
slot_in did.Nothing = None
slot_in (did.Touched slot) = Some slot
slot_in (did.Opened slot) = Some slot
slot_in (did.Done slot id opened) = Some slot
slot_in (did.Full slot id need free) = Some slot
slot_in (did.Gaps slot id) = Some slot
slot_in (did.Busy slot) = Some slot
slot_in did.Ack = None
slot_in (did.Forgotten slot id) = Some slot

-- the place of the row that a packet is for, if there is one: the call is live, the packet is its server's, and of no earlier life of the server
abbrev pub slot_for : HeldRows → Packet → Option ℕ
slot_for rows p =
    option_and_then (λ (x : Placed HeldRow). if is_host (sender p) x.row.server && not (nat_lt p.inc x.row.seen) then Some x.place else None) (get rows p.id)

-- after Done and Forgotten the call has no row; where another answer names a place, its row stands
abbrev pub HasLeft : ClientDid → Option ClientRow → Type 0
HasLeft did.Nothing row = Unit {0}
HasLeft (did.Touched slot) row = IsSome row
HasLeft (did.Opened slot) row = IsSome row
HasLeft (did.Done slot id opened) row = row ≡ None
HasLeft (did.Full slot id need free) row = IsSome row
HasLeft (did.Gaps slot id) row = IsSome row
HasLeft (did.Busy slot) row = IsSome row
HasLeft did.Ack row = Unit {0}
HasLeft (did.Forgotten slot id) row = row ≡ None

-- the version of the cutoffs in a first piece of a row's response
abbrev pub version_at : Option Piece → Option ClientRow → Option ℕ
version_at piece None = None
version_at piece (Some row) = version_in piece row.part

-- what the plain rule did where this is answered: `row` is the call's row afterwards, and a message that became whole has these bytes
abbrev pub answer_of : Moment → Packet → Option ClientRow → List ℕ → ClientDid → Did ClientRow
answer_of m p row told did.Nothing = leaves m row
answer_of m p row told (did.Touched slot) = record (leaves m row) { version = version_at (piece_in p.body p.payload) row }
answer_of m p row told (did.Opened slot) =
    record (opening (size_in (piece_in p.body p.payload)) (leaves m row)) { version = first_version (piece_in p.body p.payload) }
answer_of m p row told (did.Done slot id opened) =
    record (opening_if opened (size_in (piece_in p.body p.payload)) (leaves m row))
    { version = first_version (piece_in p.body p.payload); says = Tells (PlainDone id told) ∷ []; finished = true }
answer_of m p row told (did.Full slot id need free) = says m row (Tells (PlainFullPages id.client id need free) ∷ [])
answer_of m p row told (did.Gaps slot id) =
    record (leaves m row) { version = first_version (piece_in p.body p.payload); says = Tells (PlainGaps id.client id) ∷ [] }
answer_of m p row told (did.Busy slot) = says m row (Posts body.Busy ∷ [])
answer_of m p row told did.Ack = says m row (Posts (body.Ack []) ∷ [])
answer_of m p row told (did.Forgotten slot id) = says m row (Tells (PlainFail id WhyForgotten) ∷ [])

-- A packet of a server was taken by the table. The answer names a place exactly where the packet is for a row, and else
-- nothing changed.
pub record Received (old : Clients) (pool : Pool) (p : Packet) (now order : ℕ) (new : Clients) (pool' : Pool) (told : List ℕ)
    (answer : ClientDid) : Type 0 where
  pub did : (rows : ℕ) → let m = moment_of old.host now order pool (part_at old.rows p.id) rows in
      client_gets old.settings m p (row_at pool old.rows p.id) ≡ answer_of m p (row_at pool' new.rows p.id) told answer
  pub slot : slot_in answer ≡ slot_for old.rows p
  pub same : slot_in answer ≡ None → (new ≡ old) × (pool' ≡ pool)
  pub left : HasLeft answer (row_at pool' new.rows p.id)
  pub moved : Moved p.id old pool new pool' (row_at pool' new.rows p.id)

-- ---- a call starts

-- the name of the client's next call
abbrev pub next_call : Clients → CallId
next_call t = record { client = t.host; inc = t.inc; seq = t.seq }

-- why a call can't start, if it can't
abbrev pub fault_of : Clients → HostId → List ℕ → Option StartFault
fault_of t server request =
    if length request == 0 then Some Empty
    else if nat_lt longest_message (length request) then Some TooLong
    else if is_host server t.host then Some SelfCall
    else if nat_le t.settings.calls (len t.rows) then Some CallsFull
    else if nat_le 4294967295 t.seq then Some SeqSpent
    else None

-- a call was started, and its row stands at a place where none stood
pub record Started (old : Clients) (server : HostId) (service : ℕ) (request : List ℕ) (now order : ℕ) (new : Clients) (slot : ℕ) (id : CallId) : Type 0 where
  pub named : id ≡ next_call old
  pub first : get old.rows id ≡ None
  pub rows : (pool : Pool) → seen_rows pool new.rows ≡ insert (seen_rows pool old.rows) id (new_call old.settings now order server service request)
  pub changed : Changed id old.rows new.rows
  pub place : place_at new.rows id ≡ Some slot
  pub part : part_at new.rows id ≡ None
  pub within : slot < old.settings.calls
  pub free : IsFree old.rows slot
  pub kept : new ≡ record old { seq = old.seq + 1; rows = new.rows }

-- ---- rows at their places

-- after a Timeout the call has no row, and else its row stands
abbrev pub HasActed : ClientAct → Option ClientRow → Type 0
HasActed (act.Resend from to) row = IsSome row
HasActed (act.Timeout q) row = row ≡ None

-- the row at a place is due
abbrev pub IsDueAt : Settings → ℕ → Pool → HeldRows → ℕ → Type 0
IsDueAt s now pool rows slot = (id : CallId) (r : HeldRow) → StandsAt rows id slot r → IsSomeAnd (client_deadline s (seen_row pool r)) (λ at. at ≤ now)

-- a part of the response is in the row at a place, and may be granted up to this offset
abbrev pub MayGrant : HeldRows → ℕ → ℕ → Type 0
MayGrant rows slot offset = (id : CallId) (r : HeldRow) → StandsAt rows id slot r → IsSomeAnd r.part (λ part. (part.granted ≤ offset) × (offset ≤ part.length))

-- ---- a row's answer as the table's

-- what the table answers where the row of a call answers this
abbrev pub told_of : ℕ → CallId → RowDid → ClientDid
told_of slot id row.Touched = did.Touched slot
told_of slot id row.Opened = did.Opened slot
told_of slot id (row.Done opened) = did.Done slot id opened
told_of slot id (row.Full need free) = did.Full slot id need free
told_of slot id row.Gaps = did.Gaps slot id
told_of slot id row.Busy = did.Busy slot
told_of slot id row.Forgotten = did.Forgotten slot id

-- the rows afterwards: that of a call that is done or forgotten is gone
abbrev pub rows_left : HeldRows → CallId → RowDid → HeldRows
rows_left rows id row.Touched = rows
rows_left rows id row.Opened = rows
rows_left rows id (row.Done opened) = remove rows id
rows_left rows id (row.Full need free) = rows
rows_left rows id row.Gaps = rows
rows_left rows id row.Busy = rows
rows_left rows id row.Forgotten = remove rows id

-- the call whose row stands at a place is this one
abbrev pub IsCallAt : HeldRows → ℕ → CallId → Type 0
IsCallAt rows slot id = option_map (λ (spot : CallId × HeldRow). spot.0) (spot_at rows slot) ≡ Some id
