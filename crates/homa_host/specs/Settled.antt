-- What comes of a packet at its server, beside the row, was settled.
use Rattle.std.specs.Prelude.{◌≡◌, ◌+◌, ◌≤◌, ℕ, Bool, true, false, Option, None, Some, List, length}
use Rattle.homa_plain.specs.declared.id.CallId.{CallId}
use Rattle.homa_plain.specs.Packets.{Packet}
use Rattle.homa_plain.specs.Rows.{ServerRow}
use Rattle.homa_plain.specs.Rules.{Answer, Moment}
use Rattle.homa_plain.specs.Work.{Work}
use Rattle.homa_plain.specs.Steps.{served}
use Rattle.homa_in.specs.Pieces.{piece_in}
use Rattle.homa_server.specs.Answers.{version_there, service_in, served_of}
use Rattle.homa_server.specs.declared.answers.ServerDid.{ServerDid}
use Rattle.homa_server.specs.declared.answers.ServerDid.TheVariants as did
use Rattle.host_state.specs.Control.{Control, IsAt, IsSound}
use Rattle.host_view.specs.declared.outbox.SentFrame.{SentFrame}
use Rattle.homa_host.specs.Outcomes.{head_in, server_orders, IfServerTouched}
use Rattle.homa_host.specs.declared.outcome.PieceHead.{PieceHead}

-- whether nothing comes of an answer of a server's table, beside the row
abbrev pub is_quiet : ServerDid → Option ℕ → Bool
is_quiet did.Nothing touched = true
is_quiet (did.Touched slot) None = true
is_quiet (did.Touched slot) (Some version) = false
is_quiet (did.Opened slot) touched = false
is_quiet (did.Ran slot opened hold) touched = false
is_quiet (did.FullRows rows) touched = false
is_quiet (did.FullPages need free) touched = false
is_quiet (did.Gaps slot) touched = false
is_quiet (did.Busy slot) touched = false
is_quiet (did.Unknown slot) touched = false

-- the control and the frames, when this answer of a server's table was settled: `number` is the service of the packet's piece,
-- `head` and `touched` are what the piece tells of its message
pub record SettledServer (id : CallId) (did : ServerDid) (number : ℕ) (head : Option PieceHead) (touched : Option ℕ) (old : Control)
    (before : List SentFrame) (new : Control) (after : List SentFrame) : Type 0 where
  pub step : (m : Moment) (p : Packet) (row : Option ServerRow) (told : List ℕ) (a : Answer) (w : Work) → head ≡ head_in p.body
      → number ≡ service_in (piece_in p.body p.payload) → IfServerTouched did (λ _. touched ≡ version_there (piece_in p.body p.payload) row)
      → p.id ≡ id → IsAt w old before → IsAt (served old.settings id (served_of old.settings m id (piece_in p.body p.payload) row told a did) w) new after
  pub same : new ≡ record old { tuning = new.tuning; marks = new.marks }
  pub no_fewer : old.tuning.opened ≤ new.tuning.opened
  pub opened : new.tuning.opened ≤ old.tuning.opened + server_orders did
  pub marks : length new.marks ≤ length old.marks + 3
  pub frames : length after ≤ length before + 2
  pub sound : IsSound new
