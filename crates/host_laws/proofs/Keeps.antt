-- While a step ends, requests and responses stay.
use Rattle.std.proofs.Common.{◌≡◌, ℕ, zero, suc, ◌-◌, Bool, true, false, Option, Some, None, List, [], ◌∷◌, length, refl, sym, ap, subst, ◌∙◌}
use Rattle.std.specs.Prelude.{nat_lt, unwrap_or}
use Rattle.std.specs.Option.{option_map}
use Rattle.std.proofs.lemmas.Bool.{cond_both}
use Rattle.plain_sets.specs.Maps.{get}
use Rattle.plain_sets.specs.Ranges.{Range}
use Rattle.homa_plain.specs.declared.id.CallId.{CallId}
use Rattle.homa_plain.specs.declared.packet.Body.{Body}
use Rattle.homa_plain.specs.declared.packet.Body.TheVariants as body
use Rattle.homa_plain.specs.declared.settings.Settings.{Settings}
use Rattle.homa_plain.specs.Calls.{is_call}
use Rattle.homa_plain.specs.Grants.{Granted, grants}
use Rattle.homa_plain.specs.SentNext.{least}
use Rattle.homa_plain.specs.Outgoing.{next_range}
use Rattle.homa_plain.specs.Rows.{ClientRow, ServerRow, State, Receiving, Held, Replying, Buried, set_row}
use Rattle.homa_plain.specs.Host.{Host, peer_cutoffs, packets_in}
use Rattle.homa_plain.specs.Timers.{Place, OfClient, OfServer}
use Rattle.homa_plain.specs.Sending.{Arriving, arrivals, client_granted, server_granted, state_granted, while_new}
use Rattle.homa_plain.specs.SentNext.{Leaving, leaving_key, departures}
use Rattle.homa_plain.specs.Sending.{client_sends, state_sends, response_content}
use Rattle.homa_plain.specs.Work.{Work, now_of}
use Rattle.homa_plain.specs.Steps.{client_is_granted, server_is_granted, grants_at, all_granted, gives_grants}
use Rattle.homa_plain.specs.SentNext.{request_leaves}
use Rattle.homa_plain.specs.SentNext.{response_leaves, client_leaves, state_leaves, server_leaves, leaves_from, first_leaves, pumped_once, pumps, pump}
use Rattle.homa_plain.specs.Steps.{ended}
use Rattle.homa_plain.proofs.CallOrder.{calls_are}
use Rattle.step_laws.proofs.Others.{get-set_row, set_row-others}
use Rattle.step_laws.proofs.StepEnd.{left}
use Rattle.host_view.specs.Marks.{request_of, response_of, response_in}
use Rattle.host_laws.specs.Bytes.{KeepsBytes}

abbrev KeepsTo : Work → Work → Type 0
KeepsTo w v = KeepsBytes w.host v.host

keeps-none : (h : Host) → KeepsBytes h h
keeps-none h = record { requests = λ q. refl; responses = λ q. refl }

pub keeps-then : (a b c : Host) → KeepsBytes a b → KeepsBytes b c → KeepsBytes a c
keeps-then a b c x y = record { requests = λ q. y.requests q ∙ x.requests q; responses = λ q. y.responses q ∙ x.responses q }

-- one row changes, and its bytes stay
abbrev bytes_in : Option ClientRow → List ℕ
bytes_in o = unwrap_or (option_map (λ (r : ClientRow). r.request) o) []

abbrev reply_in : Option ServerRow → List ℕ
reply_in o = unwrap_or (option_map (λ (r : ServerRow). response_in r.state) o) []

module _ (h h' : Host) (id : CallId) where
  pub keeps-client : (r r' : ClientRow) → get h.clients id ≡ Some r → r'.request ≡ r.request → h'.clients ≡ set_row h.clients id (Some r')
      → h'.servers ≡ h.servers → KeepsBytes h h'
  keeps-client r r' is same e f = record { requests = λ q. at q (is_call q id) refl; responses = λ q. ap (λ rows. reply_in (get rows q)) f } where
    at : (q : CallId) (b : Bool) → is_call q id ≡ b → request_of h' q ≡ request_of h q
    at q true t =
        let named : q ≡ id = (calls_are q id).0 t in
        ap (λ rows. bytes_in (get rows q)) e ∙ ap (λ c. bytes_in (get (set_row h.clients id (Some r')) c)) named
        ∙ ap bytes_in (get-set_row h.clients id (Some r')) ∙ same
        ∙ sym (ap bytes_in is) ∙ sym (ap (λ c. bytes_in (get h.clients c)) named)
    at q false t = ap (λ rows. bytes_in (get rows q)) e ∙ ap bytes_in (set_row-others h.clients id (Some r') q t)

  pub keeps-server : (r r' : ServerRow) → get h.servers id ≡ Some r → response_in r'.state ≡ response_in r.state
      → h'.servers ≡ set_row h.servers id (Some r') → h'.clients ≡ h.clients → KeepsBytes h h'
  keeps-server r r' is same e f = record { requests = λ q. ap (λ rows. bytes_in (get rows q)) f; responses = λ q. at q (is_call q id) refl } where
    at : (q : CallId) (b : Bool) → is_call q id ≡ b → response_of h' q ≡ response_of h q
    at q true t =
        let named : q ≡ id = (calls_are q id).0 t in
        ap (λ rows. reply_in (get rows q)) e ∙ ap (λ c. reply_in (get (set_row h.servers id (Some r')) c)) named
        ∙ ap reply_in (get-set_row h.servers id (Some r')) ∙ same
        ∙ sym (ap reply_in is) ∙ sym (ap (λ c. reply_in (get h.servers c)) named)
    at q false t = ap (λ rows. reply_in (get rows q)) e ∙ ap reply_in (set_row-others h.servers id (Some r') q t)

granted_reply : (now offset : ℕ) (state : State) → response_in (state_granted now offset state) ≡ response_in state
granted_reply now offset (Receiving service part base count) = refl
granted_reply now offset (Held response release) = refl
granted_reply now offset (Replying response out order base count) = refl
granted_reply now offset (Buried until) = refl

sent_reply : (s : Settings) (now : ℕ) (state : State) → response_in (state_sends s now state) ≡ response_in state
sent_reply s now (Receiving service part base count) = refl
sent_reply s now (Held response release) = refl
sent_reply s now (Replying response out order base count) = refl
sent_reply s now (Buried until) = refl

while_request : (now : ℕ) (r : ClientRow) → (while_new now r).request ≡ r.request
while_request now r = cond_both (nat_lt r.out.top r.out.length) _ _ (λ (x : ClientRow). x.request ≡ r.request) (λ _. refl) (λ _. refl)

module _ (s : Settings) where
  client-granted : (id : CallId) (what : Body) (offset : ℕ) (o : Option ClientRow) (w : Work) → get w.host.clients id ≡ o
      → KeepsBytes w.host (client_is_granted s id what offset o w).host
  client-granted id what offset None w is = keeps-none w.host
  client-granted id what offset (Some r) w is =
      keeps-client w.host (client_is_granted s id what offset (Some r) w).host id r (client_granted (now_of w) offset r) is refl refl refl

  server-granted : (id : CallId) (what : Body) (offset : ℕ) (o : Option ServerRow) (w : Work) → get w.host.servers id ≡ o
      → KeepsBytes w.host (server_is_granted s id what offset o w).host
  server-granted id what offset None w is = keeps-none w.host
  server-granted id what offset (Some row) w is =
      keeps-server w.host (server_is_granted s id what offset (Some row) w).host id row (server_granted (now_of w) offset row) is
      (granted_reply (now_of w) offset row.state) refl refl

  granted-at : (place : Place) (offset prio : ℕ) (w : Work) → KeepsBytes w.host (grants_at s place offset prio w).host
  granted-at (OfClient id) offset prio w = client-granted id (body.Grant offset prio) offset (get w.host.clients id) w refl
  granted-at (OfServer id) offset prio w = server-granted id (body.Grant offset prio) offset (get w.host.servers id) w refl

  granted-all : (gs : List (Granted Arriving)) (w : Work) → KeepsBytes w.host (all_granted s gs w).host
  granted-all [] w = keeps-none w.host
  granted-all (g ∷ gs) w =
      let v : Work = grants_at s g.to.place g.offset g.prio w in
      keeps-then w.host v.host (all_granted s gs v).host (granted-at g.to.place g.offset g.prio w) (granted-all gs v)

  client-left : (id : CallId) (o : Option ClientRow) (w v : Work) → get w.host.clients id ≡ o → client_leaves s id o w ≡ Some v → KeepsBytes w.host v.host
  client-left id None w v is e = cc
  client-left id (Some r) w v is e =
      let l = left (next_range r.out s.seg) w v (λ range. request_leaves s id r range w) e in
      subst (λ (v : Work). KeepsBytes w.host v.host) l.is
      (keeps-client w.host (request_leaves s id r l.range w).host id r (client_sends s (now_of w) r) is (while_request (now_of w) r) refl refl)

  state-left : (id : CallId) (row : ServerRow) (state : State) (w v : Work) → get w.host.servers id ≡ Some row
      → state_leaves s id row state w ≡ Some v → KeepsBytes w.host v.host
  state-left id row (Receiving service part base count) w v is e = cc
  state-left id row (Held response release) w v is e = cc
  state-left id row (Replying response out order base count) w v is e =
      let leave : Range → Work = λ range. response_leaves s id row (response_content s (peer_cutoffs s w.host id.client).cutoffs response out range) range w in
      let l = left (next_range out s.seg) w v leave e in
      subst (λ (v : Work). KeepsBytes w.host v.host) l.is
      (keeps-server w.host (leave l.range).host id row (record row { state = state_sends s (now_of w) row.state }) is
      (sent_reply s (now_of w) row.state) refl refl)
  state-left id row (Buried until) w v is e = cc

  server-left : (id : CallId) (o : Option ServerRow) (w v : Work) → get w.host.servers id ≡ o → server_leaves s id o w ≡ Some v → KeepsBytes w.host v.host
  server-left id None w v is e = cc
  server-left id (Some row) w v is e = state-left id row row.state w v is e

  left-from : (place : Place) (w v : Work) → leaves_from s place w ≡ Some v → KeepsBytes w.host v.host
  left-from (OfClient id) w v e = client-left id (get w.host.clients id) w v refl e
  left-from (OfServer id) w v e = server-left id (get w.host.servers id) w v refl e

  first-left : (o : Option Leaving) (w v : Work) → first_leaves s o w ≡ Some v → KeepsBytes w.host v.host
  first-left None w v e = cc
  first-left (Some l) w v e = left-from l.place w v e

  once-keeps : (w v : Work) → pumped_once s w ≡ Some v → KeepsBytes w.host v.host
  unfolding pumped_once
  once-keeps w v e = first-left (least leaving_key (departures s (now_of w) w.host)) w v e

  pumps-keeps : (n : ℕ) (w : Work) → KeepsBytes w.host (pumps s n w).host
  unfolding pumps
  pumps-keeps zero w = keeps-none w.host
  pumps-keeps (suc n) w =
      elim (pumped_once s w) as (λ o. pumped_once s w ≡ o → KeepsTo w (elim o [ None ↦ w | Some after ↦ pumps s n after ])) [
        | None ↦ λ e. keeps-none w.host
        | Some v ↦ λ e. keeps-then w.host v.host (pumps s n v).host (once-keeps w v e) (pumps-keeps n v)
      ] refl

  pub ended-keeps : (w : Work) → KeepsBytes w.host (ended s w).host
  ended-keeps w =
      let v : Work = gives_grants s w in
      keeps-then w.host v.host (pump s v).host (granted-all (grants (λ (a : Arriving). a.message) s.overcommit s.window (arrivals w.host)) w)
      (pumps-keeps (64 - length (packets_in v.told)) v)
