-- The rows that are due act, and a step ends: the lifetime invariant is kept.
use Rattle.std.proofs.Common.{◌≡◌, ℕ, ◌+◌, ◌≤◌, ◌<◌, Some, length, refl, sym, ap, subst, ◌∙◌, arith}
use Rattle.homa_plain.specs.declared.id.CallId.{CallId}
use Rattle.homa_plain.specs.declared.id.HostId.{HostId}
use Rattle.homa_plain.specs.declared.settings.Settings.{Settings}
use Rattle.homa_plain.specs.Rows.{ClientRow, ServerRow}
use Rattle.homa_plain.specs.Host.{peer_cutoffs}
use Rattle.homa_plain.specs.Rules.{Moment}
use Rattle.homa_plain.specs.Timers.{Place, OfClient, OfServer, server_deadline, state_deadline, client_acts, server_acts}
use Rattle.homa_plain.specs.Sending.{response_content}
use Rattle.homa_plain.specs.Work.{Work, now_of}
use Rattle.homa_plain.specs.Steps.{moment, client_acted, server_acted, acts_at, acts, ended}
use Rattle.trace_rules.specs.View.{View}
use Rattle.homa_plain.specs.World.{World}
use Rattle.trace_steps.specs.Stands.{state_of, amid}
use Rattle.step_laws.proofs.Own.{server_acts_own, client_acts_quiet}
use Rattle.trace_steps.proofs.Frame.{server_there, client_there, last_there}
use Rattle.step_moves.proofs.Chosen.{IsTimerAt}
use Rattle.step_moves.proofs.Folds.{turn_kept, ended_kept}
use Rattle.trace_once.specs.Lifetime.{times}
use Rattle.trace_once.proofs.ServerTimers.{IsNow, server_acts_keeps}
use Rattle.trace_once.proofs.ClientTimers.{client_made, client_acts_keeps}
use Rattle.trace_once.proofs.Acks.{client_acts_done}
use Rattle.trace_once.proofs.Amid.{IsAmid}
use Rattle.trace_once.proofs.ServedCame.{served_came}
use Rattle.trace_once.proofs.AskedCame.{asked_came}
use Rattle.trace_once.proofs.SentCame.{server_granted_came, client_granted_came, response_came, request_came}

module _ (s : Settings) (w : World) (v : View) (host : HostId) (now : ℕ) (stands : host.0 < length w.hosts) (from : w.clock ≤ now)
    (within : now ≤ w.clock + (times s).band) where
  is_now : (work : Work) (q : CallId) → IsAmid s w v host now work → IsNow s (amid w v host work q host) (now_of work)
  is_now work q k = record { from = omega (arith, from, k.last); within = omega (arith, within, k.last); last = last_there w v host work q stands }

  -- a row whose deadline has come acts
  pub acted_came : (work : Work) (place : Place) (at : ℕ) → IsAmid s w v host now work → IsTimerAt s work.host at place → at ≤ now_of work
      → IsAmid s w v host now (acts_at s place work)
  unfolding server_deadline
  acted_came work (OfServer id) at k timer past =
      let m : Moment = moment s id work in
      let row : ServerRow = timer.0 in
      let here : (amid w v host work id host).server ≡ Some row.state = server_there w v host work id stands ∙ ap state_of timer.1 in
      let c = served_came s w v host now stands work id (server_acts s m id row) k (server_acts_own s m id row)
      (server_acts_keeps s host (amid w v host work id host) m id row at (k.kept.calls id host) here (is_now work id k) (deadline_of row timer.2) past) in
      subst (IsAmid s w v host now) (ap (λ o. server_acted s id o work) (sym timer.1)) c.amid where
        deadline_of : (row : ServerRow) → server_deadline s row ≡ Some at → state_deadline s row.state ≡ Some at
        deadline_of row e = e
  acted_came work (OfClient id) at k timer past =
      let m : Moment = moment s id work in
      let r : ClientRow = timer.0 in
      let mine : id.client ≡ host = k.own id r timer.1 in
      let row = (λ (n : HostId). let e : (amid w v host work id n).client ≡ Some r = client_there w v host work id n stands mine ∙ timer.1 in e) in
      let c = asked_came s w v host now stands work id r.server (client_acts s m id r) k mine (client_acts_quiet s m id r) (client_acts_done s m id r)
      (client_made s r.server (amid w v host work id r.server) r (k.kept.calls id r.server) (row r.server))
      (λ n. client_acts_keeps s n (amid w v host work id n) m id r (k.kept.calls id n) (row n)) in
      subst (IsAmid s w v host now) (ap (λ o. client_acted s id o work) (sym timer.1)) c.amid

  pub turn_came : 1 ≤ s.resend → (work : Work) → IsAmid s w v host now work → IsAmid s w v host now (acts s work)
  turn_came resend work k = turn_kept s (IsAmid s w v host now) acted_came resend work k

  -- GRANTs and the pump
  pub ended_came : 0 < s.seg → (work : Work) → IsAmid s w v host now work → IsAmid s w v host now (ended s work)
  ended_came seg work k = ended_kept s (IsAmid s w v host now)
      (record {
        response = λ now' id r part offset prio k at has is more. (client_granted_came s w v host now stands now' k id offset prio r at).amid;
        request = λ now' id row service part base count offset prio k at is same more.
            (server_granted_came s w v host now stands now' k id offset prio row service part base count at is).amid;
      })
      (record {
        request = λ now' id r range k at may next. (request_came s w v host now stands now' k id r range from within seg at may next).amid;
        response = λ now' id row response out order base count range k at is next.
            (response_came s w v host now stands now' k id row response out order base count
            (response_content s (peer_cutoffs s now'.host id.client).cutoffs response out range) range
            out.length range.from (peer_cutoffs s now'.host id.client).cutoffs.version 0 at is refl).amid;
      })
      work k
