-- Nothing comes of a rule beside its row: what stands there is as before.
use Rattle.std.proofs.Common.{◌≡◌, ℕ, true, false, refl, sym, subst, List, [], ◌∷◌, ◌++◌, Option, Some, None, arith}
use Rattle.core.specs.Option.{is_some}
use Rattle.homa_plain.specs.declared.id.CallId.{CallId}
use Rattle.homa_plain.specs.declared.id.HostId.{HostId}
use Rattle.homa_plain.specs.declared.settings.Settings.{Settings}
use Rattle.homa_plain.specs.Entries.{PlainEntry}
use Rattle.homa_plain.specs.Host.{Host}
use Rattle.homa_plain.specs.Rows.{ClientRow, ServerRow, set_row}
use Rattle.homa_plain.specs.Packets.{Packet}
use Rattle.homa_plain.specs.Rules.{Moment, Answer, Tells, leaves, says}
use Rattle.homa_plain.specs.Work.{Work}
use Rattle.homa_plain.specs.Steps.{asked, served}
use Rattle.host_view.specs.declared.outbox.SentFrame.{SentFrame}
use Rattle.host_view.specs.Marks.{mark_of}
use Rattle.homa_in.specs.Pieces.{piece_in}
use Rattle.homa_server.specs.Answers.{version_there, service_in, served_of}
use Rattle.homa_server.specs.declared.answers.ServerDid.{ServerDid}
use Rattle.homa_server.specs.declared.answers.ServerDid.TheVariants as did
use Rattle.host_state.specs.Control.{Control, IsAt, IsSound}
use Rattle.homa_host.specs.Outcomes.{head_in, IfServerTouched}
use Rattle.homa_host.specs.Settled.{SettledServer, is_quiet}
use Rattle.homa_host.specs.declared.outcome.PieceHead.{PieceHead}
use Rattle.host_state.proofs.At.{at-none, at-told}

-- what isn't there is none
pub none_there : (o : Option ℕ) → is_some o ≡ false → o ≡ None
none_there None e = refl
none_there (Some n) e = cc

module _ (s : Settings) (id : CallId) (w : Work) (c : Control) (frames : List SentFrame) (at : IsAt w c frames) where
  -- other rows change nothing beside them
  at_rows : (h : Host) → h ≡ record w.host { order = h.order; clients = h.clients; servers = h.servers } → IsAt (record w { host = h }) c frames
  at_rows h e = subst (λ (x : Host). IsAt (record w { host = x }) c frames) (sym e) (record {
    id = at.id;
    inc = at.inc;
    last = at.last;
    tuning = at.tuning;
    peers = at.peers;
    finished = at.finished;
    marked = at.marked;
    sent = at.sent;
    formed = at.formed;
  })

  -- at a call's client
  pub asked_quiet : (server : HostId) (m : Moment) (row : Option ClientRow) (v : Option ℕ) → v ≡ None
      → IsAt (asked s id server (record (leaves m row) { version = v }) w) c frames
  unfolding asked
  asked_quiet server m row v e =
      let h : Host = record w.host { order = m.order; clients = set_row w.host.clients id row } in
      subst (λ (v : Option ℕ). IsAt (asked s id server (record (leaves m row) { version = v }) w) c frames) (sym e)
      (at-none (record w { host = h }) c frames (at_rows h refl))

  -- at its server
  pub served_quiet : (m : Moment) (row : Option ServerRow) (v : Option ℕ) → v ≡ None
      → IsAt (served s id (record (leaves m row) { version = v }) w) c frames
  unfolding served
  served_quiet m row v e =
      let h : Host = record w.host { order = m.order; servers = set_row w.host.servers id row } in
      subst (λ (v : Option ℕ). IsAt (served s id (record (leaves m row) { version = v }) w) c frames) (sym e)
      (at-none (record w { host = h }) c frames (at_rows h refl))

  -- an entry at its server
  pub served_told : (m : Moment) (row : Option ServerRow) (entry : PlainEntry) (d : Control) → d ≡ record c { marks = c.marks ++ mark_of entry ∷ [] }
      → IsAt (served s id (says m row (Tells entry ∷ [])) w) d frames
  unfolding served
  served_told m row entry d e =
      let h : Host = record w.host { order = m.order; servers = set_row w.host.servers id row } in
      at-told (record w { host = h }) c d frames entry e (at_rows h refl)

-- nothing has to be settled
pub quiet_settled : (id : CallId) (d : ServerDid) (number : ℕ) (head : Option PieceHead) (touched : Option ℕ) (c : Control) (frames : List SentFrame)
    → IsSound c → is_quiet d touched ≡ true → SettledServer id d number head touched c frames c frames
quiet_settled id d number head touched c frames sound quiet = record {
  step = step d touched quiet;
  same = refl;
  no_fewer = omega arith;
  opened = omega arith;
  marks = omega arith;
  frames = omega arith;
  sound = sound;
} where
  step : (d : ServerDid) (touched : Option ℕ) → is_quiet d touched ≡ true → (m : Moment) (p : Packet) (row : Option ServerRow) (told : List ℕ)
      (a : Answer) (w : Work) → head ≡ head_in p.body → number ≡ service_in (piece_in p.body p.payload)
      → IfServerTouched d (λ _. touched ≡ version_there (piece_in p.body p.payload) row) → p.id ≡ id → IsAt w c frames
      → IsAt (served c.settings id (served_of c.settings m id (piece_in p.body p.payload) row told a d) w) c frames
  step did.Nothing touched quiet m p row told a w is of there named at = served_quiet c.settings id w c frames at m row None refl
  step (did.Touched slot) None quiet m p row told a w is of there named at =
      served_quiet c.settings id w c frames at m row (version_there (piece_in p.body p.payload) row) (sym there)
  step (did.Touched slot) (Some version) quiet m p row told a w is of there named at = cc
  step (did.Opened slot) touched quiet m p row told a w is of there named at = cc
  step (did.Ran slot opened hold) touched quiet m p row told a w is of there named at = cc
  step (did.FullRows rows) touched quiet m p row told a w is of there named at = cc
  step (did.FullPages need free) touched quiet m p row told a w is of there named at = cc
  step (did.Gaps slot) touched quiet m p row told a w is of there named at = cc
  step (did.Busy slot) touched quiet m p row told a w is of there named at = cc
  step (did.Unknown slot) touched quiet m p row told a w is of there named at = cc
