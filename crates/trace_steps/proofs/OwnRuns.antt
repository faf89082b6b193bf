-- Who runs by a rule that is carried out: its own call at its own host, where it asks a service.
use Rattle.std.proofs.Common.{◌≡◌, ℕ, Bool, true, false, ◌&&◌, ◌||◌, Option, Some, None, List, [], ◌∷◌, ◌++◌, length, refl, ap, ◌∙◌}
use Rattle.std.specs.Prelude.{◌==◌, nat_lt}
use Rattle.std.proofs.lemmas.Bool.{cond_both}
use Rattle.homa_plain.specs.declared.id.CallId.{CallId}
use Rattle.homa_plain.specs.declared.id.HostId.{HostId}
use Rattle.homa_plain.specs.declared.packet.Role.{Role}
use Rattle.homa_plain.specs.declared.packet.Role.TheVariants.{Client, Server}
use Rattle.homa_plain.specs.declared.settings.Settings.{Settings}
use Rattle.homa_plain.specs.Calls.{is_host, is_call}
use Rattle.homa_plain.specs.Entries.{PlainEntry, PlainRun, PlainDone, PlainFail, PlainDrop, PlainGaps, PlainBury, PlainFree, PlainFullRows, PlainFullPages}
use Rattle.homa_plain.specs.Rows.{ClientRow, ServerRow}
use Rattle.homa_plain.specs.Host.{Host, Told, Tuned, tuned, is_balance_due, counted, finished_at}
use Rattle.homa_plain.specs.Rules.{Say, Tells, Posts, Did}
use Rattle.homa_plain.specs.Work.{Work, said}
use Rattle.trace_steps.proofs.Runs.{is_run, runs_told, runs-append}
use Rattle.step_laws.proofs.Own.{IsOwn, AllOwn, runs_said}
use Rattle.step_moves.proofs.Moves.{notes_told, reply_told, acknowledged_told, finishes_told, served_put, served_noted, served_told}
use Rattle.step_moves.proofs.AskedMove.{asked_put, asked_noted, asked_said, asked_told}

module _ (s : Settings) (h : HostId) (q : CallId) where
  pub notes-runs : (o : Option ℕ) (w : Work) → runs_told h q (notes_told s o w) ≡ false
  unfolding tuned
  notes-runs None w = refl
  notes-runs (Some n) w = cond_both (is_balance_due s (counted w.host.tuning n)) _ _ (λ (t : Tuned). runs_told h q t.told ≡ false) (λ _. refl) (λ _. refl)

  pub reply-runs : (role : Role) (id : CallId) (server : HostId) (o : Option ℕ) (w : Work) → runs_told h q (reply_told s role id server o w) ≡ false
  reply-runs role id server None w = refl
  reply-runs role id server (Some version) w =
      cond_both (version == w.host.tuning.own.version) _ _ (λ (t : List Told). runs_told h q t ≡ false) (λ _. refl) (λ _. refl)

  acknowledged-runs : (server : HostId) (calls : List (ℕ × ℕ)) (w : Work) → runs_told h q (acknowledged_told s server calls w) ≡ false
  acknowledged-runs server [] w = refl
  acknowledged-runs server (call ∷ calls) w = cond_both (nat_lt (length calls) 4) _ _ (λ (t : List Told). runs_told h q t ≡ false) (λ _. refl) (λ _. refl)

  pub finishes-runs : (id : CallId) (server : HostId) (done : Bool) (w : Work) → runs_told h q (finishes_told s id server done w) ≡ false
  finishes-runs id server false w = refl
  finishes-runs id server true w = acknowledged-runs server (finished_at w.host server ++ (id.inc, id.seq) ∷ []) w

  -- what a rule says
  pub says-runs : (host : Host) (role : Role) (id : CallId) (server n : HostId) (says : List Say) → AllOwn n id says
      → runs_told h q (said s host role id server says) ≡ runs_said says && (is_call id q && is_host n h)
  says-runs host role id server n [] own = refl
  says-runs host role id server n (Posts what ∷ says) own = says-runs host role id server n says own
  says-runs host role id server n (Tells entry ∷ says) own = by_entry entry own.0 (says-runs host role id server n says own.1) where
    here : Bool
    here = is_call id q && is_host n h

    or_and : (a b : Bool) → (b || (a && b)) ≡ b
    or_and true true = refl
    or_and true false = refl
    or_and false true = refl
    or_and false false = refl

    by_entry : (entry : PlainEntry) → IsOwn n id entry → runs_told h q (said s host role id server says) ≡ runs_said says && here
        → is_run h q entry || runs_told h q (said s host role id server says) ≡ runs_said (Tells entry ∷ says) && here
    by_entry (PlainRun host' id' service request response hold) own e =
        ap (λ b. b || runs_told h q (said s host role id server says))
        (ap (λ (x : CallId). is_call x q && is_host host' h) own.1 ∙ ap (λ (x : HostId). is_call id q && is_host x h) own.0)
        ∙ ap (λ b. here || b) e ∙ or_and (runs_said says) here
    by_entry (PlainDone id' bytes) own e = e
    by_entry (PlainFail id' why) own e = e
    by_entry (PlainDrop host' id') own e = e
    by_entry (PlainGaps host' id') own e = e
    by_entry (PlainBury host' id' until) own e = e
    by_entry (PlainFree host' id') own e = e
    by_entry (PlainFullRows host' id' rows limit) own e = e
    by_entry (PlainFullPages host' id' need free) own e = e
    by_entry line own e = absurd own

  -- a rule at a server
  pub served-runs : (id : CallId) (did : Did ServerRow) (w : Work) → AllOwn w.host.id id did.says
      → runs_told h q (served_told s id did w) ≡ runs_said did.says && (is_call id q && is_host w.host.id h)
  served-runs id did w own =
      let noted = notes_told s did.opened (served_put s id did w) in
      let reply = reply_told s Server id w.host.id did.version (served_noted s id did w) in
      let says = said s w.host Server id w.host.id did.says in
      runs-append h q noted (reply ++ says) ∙ ap (λ b. b || runs_told h q (reply ++ says)) (notes-runs did.opened (served_put s id did w))
      ∙ runs-append h q reply says ∙ ap (λ b. b || runs_told h q says) (reply-runs Server id w.host.id did.version (served_noted s id did w))
      ∙ says-runs w.host Server id w.host.id w.host.id did.says own

  -- a rule at a client that asks no service
  pub asked-runs : (id : CallId) (server : HostId) (did : Did ClientRow) (w : Work) → AllOwn id.client id did.says → runs_said did.says ≡ false
      → runs_told h q (asked_told s id server did w) ≡ false
  asked-runs id server did w own quiet =
      let noted = notes_told s did.opened (asked_put s id server did w) in
      let reply = reply_told s Client id server did.version (asked_noted s id server did w) in
      let says = said s w.host Client id server did.says in
      let ends = finishes_told s id server did.finished (asked_said s id server did w) in
      runs-append h q noted (reply ++ (says ++ ends)) ∙ ap (λ b. b || runs_told h q (reply ++ (says ++ ends)))
      (notes-runs did.opened (asked_put s id server did w))
      ∙ runs-append h q reply (says ++ ends) ∙ ap (λ b. b || runs_told h q (says ++ ends))
      (reply-runs Client id server did.version (asked_noted s id server did w))
      ∙ runs-append h q says ends ∙ ap (λ b. b || runs_told h q ends)
      (says-runs w.host Client id server id.client did.says own ∙ ap (λ b. b && (is_call id q && is_host id.client h)) quiet)
      ∙ finishes-runs id server did.finished (asked_said s id server did w)
