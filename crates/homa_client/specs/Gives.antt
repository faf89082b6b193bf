-- What the answers of a row say of the plain rules.
use Rattle.std.specs.Prelude.{◌≡◌, ◌<◌, ◌≤◌, ℕ, ◌+◌, true, if◌then◌else◌, Option, Some, None, List, [], ◌∷◌}
use Rattle.homa_plain.specs.declared.id.CallId.{CallId}
use Rattle.homa_plain.specs.declared.id.HostId.{HostId}
use Rattle.homa_plain.specs.declared.packet.Body.TheVariants as body
use Rattle.homa_plain.specs.declared.settings.Settings.{Settings}
use Rattle.homa_plain.specs.Settings.{asking_level}
use Rattle.homa_plain.specs.declared.entry.Why.TheVariants.{Forgotten as WhyForgotten, Timeout as WhyTimeout}
use Rattle.homa_plain.specs.declared.row.RowFacts.{RowFacts}
use Rattle.homa_plain.specs.declared.row.Emitted.{Emitted}
use Rattle.homa_plain.specs.declared.row.Emitted.TheVariants.{Rests}
use Rattle.homa_plain.specs.Outgoing.{has_waiting, left, next_range}
use Rattle.homa_plain.specs.Entries.{PlainDone, PlainFail, PlainFullPages, PlainGaps}
use Rattle.homa_plain.specs.Rows.{ClientRow}
use Rattle.homa_plain.specs.Rules.{Moment, Piece, Tells, Posts, Did, keeps, says, opening}
use Rattle.homa_plain.specs.SentNext.{may_send_request}
use Rattle.homa_plain.specs.Sending.{client_sends}
use Rattle.msg_pool.specs.Pool.{Pool, free_pages}
use Rattle.homa_in.specs.Part.{Part}
use Rattle.homa_in.specs.Pooled.{Moves, pages_of}
use Rattle.homa_in.specs.Pieces.{first_version, version_in, size_in, opening_if, moment_with}
use Rattle.homa_in.specs.Sends.{emits, is_sent}
use Rattle.homa_client.specs.Held.{HeldRow, seen_row}
use Rattle.homa_client.specs.declared.answers.RowDid.{RowDid}
use Rattle.homa_client.specs.declared.answers.RowDid.TheVariants.{Touched, Opened, Done, Full, Gaps, Busy, Forgotten}
use Rattle.homa_client.specs.declared.answers.ClientAct.{ClientAct}
use Rattle.homa_client.specs.declared.answers.ClientAct.TheVariants as act
use Rattle.homa_plain.specs.Limits.{longest_message}

-- what a rule for a row is given, where its part stands in the pool: what is free, and the pages of the part itself
abbrev pub moment_of : HostId → ℕ → ℕ → Pool → Option Part → ℕ → Moment
moment_of host now order pool part rows = moment_with host now order (free_pages pool + pages_of part) rows

-- what the plain rule did where this is answered: the row is now this one, and a message that became whole has these bytes
abbrev pub did_of : Moment → CallId → Option Piece → ClientRow → List ℕ → RowDid → Did ClientRow
did_of m id piece row bytes Touched = record (keeps m row) { version = version_in piece row.part }
did_of m id piece row bytes Opened = record (opening (size_in piece) (keeps m row)) { version = first_version piece }
did_of m id piece row bytes (Done opened) =
    record (opening_if opened (size_in piece) (keeps m row)) {
      row = None;
      version = first_version piece;
      says = Tells (PlainDone id bytes) ∷ [];
      finished = true;
    }
did_of m id piece row bytes (Full need free) = says m (Some row) (Tells (PlainFullPages id.client id need free) ∷ [])
did_of m id piece row bytes Gaps = record (keeps m row) { version = first_version piece; says = Tells (PlainGaps id.client id) ∷ [] }
did_of m id piece row bytes Busy = says m (Some row) (Posts body.Busy ∷ [])
did_of m id piece row bytes Forgotten = says m None (Tells (PlainFail id WhyForgotten) ∷ [])

-- a row that goes has no part any more
abbrev pub HasNone : RowDid → Option Part → Type 0
HasNone Touched part = Unit {0}
HasNone Opened part = Unit {0}
HasNone (Done opened) part = part ≡ None
HasNone (Full need free) part = Unit {0}
HasNone Gaps part = Unit {0}
HasNone Busy part = Unit {0}
HasNone Forgotten part = part ≡ None

-- the plain rule did what the answer says, and of the pool only the row's own part changed
pub record Gave (m : Moment) (id : CallId) (piece : Option Piece) (plain : Did ClientRow) (old : Pool) (before : HeldRow) (new : Pool)
    (after : HeldRow) (told : List ℕ) (answer : RowDid) : Type 0 where
  pub did : plain ≡ did_of m id piece (seen_row new after) told answer
  pub moves : Moves old before.part new after.part
  pub gone : HasNone answer after.part

-- ---- sending

-- a row sends its next bytes where its request may be sent and the credit is enough
abbrev pub row_emits : Settings → ℕ → ℕ → ClientRow → Emitted
row_emits s now credit r = if may_send_request s now r then emits credit (next_range r.out s.seg) else Rests

-- the row afterwards
abbrev pub row_sends : Settings → ℕ → ClientRow → Emitted → ClientRow
row_sends s now r emitted = if is_sent emitted then client_sends s now r else r

-- ---- acts

-- what the plain rule did where a row that was due answers this
abbrev pub IsAct : Settings → Moment → CallId → Did ClientRow → ClientAct → Type 0
IsAct s m id did (act.Resend from to) = did ≡ says m did.row (Posts (body.Resend from to (asking_level s)) ∷ [])
IsAct s m id did (act.Timeout q) = (q ≡ id) × (did ≡ says m None (Tells (PlainFail id WhyTimeout) ∷ []))

-- the row afterwards, if it stays
abbrev pub row_left : ClientRow → ClientAct → Option ClientRow
row_left row (act.Resend from to) = Some row
row_left row (act.Timeout q) = None

-- a row that goes has no part any more
abbrev pub IsLeft : ClientAct → Option Part → Type 0
IsLeft (act.Resend from to) part = Unit {0}
IsLeft (act.Timeout q) part = part ≡ None

-- some bytes of a message are asked for
abbrev pub IsAsked : ClientAct → Type 0
IsAsked (act.Resend from to) = (from < to) × (to ≤ longest_message)
IsAsked (act.Timeout q) = Unit {0}

-- ---- facts

-- what is told of a call's row
abbrev pub facts : CallId → HeldRow → RowFacts
facts id r = record {
  id = id;
  peer = r.server;
  order = r.order;
  out = Some (record { length = r.out.length; service = r.service; left = left r.out; order = r.order; prio = r.out.prio; waiting = has_waiting r.out });
}
