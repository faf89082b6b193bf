-- No move changes the row of another call.
use Rattle.std.proofs.Common.{◌≡◌, ℕ, true, false, cond, Option, Some, None, List, refl, ap, subst, ◌∙◌}
use Rattle.std.specs.Ordering.{eq_by_cmp}
use Rattle.plain_sets.specs.Maps.{get}
use Rattle.plain_sets.proofs.MapLaws.{get-insert, get-remove}
use Rattle.homa_plain.specs.declared.id.CallId.{CallId}
use Rattle.homa_plain.specs.declared.id.HostId.{HostId}
use Rattle.homa_plain.specs.declared.packet.Body.{Body}
use Rattle.homa_plain.specs.declared.packet.Body.TheVariants as body
use Rattle.homa_plain.specs.declared.settings.Settings.{Settings}
use Rattle.homa_plain.specs.Outgoing.{next_range}
use Rattle.homa_plain.specs.Calls.{is_call}
use Rattle.homa_plain.specs.Calls.{call_cmp}
use Rattle.homa_plain.specs.Rows.{ClientRow, ServerRow, State, Replying, RowsOf, set_row}
use Rattle.homa_plain.specs.Host.{peer_cutoffs}
use Rattle.homa_plain.specs.Rules.{Did}
use Rattle.homa_plain.specs.Timers.{Place, OfClient, OfServer, client_acts, server_acts}
use Rattle.homa_plain.specs.Sending.{client_granted, server_granted, response_content, client_sends, state_sends}
use Rattle.homa_plain.specs.Work.{Work, now_of}
use Rattle.homa_plain.specs.Steps.{asked, served, moment, client_acted, server_acted, acts_at, client_is_granted, server_is_granted}
use Rattle.homa_plain.specs.Steps.{grants_at, next_id}
use Rattle.homa_plain.specs.SentNext.{request_leaves, response_leaves, client_leaves, state_leaves, server_leaves, leaves_from}
use Rattle.homa_plain.specs.Steps.{new_call, starts}
use Rattle.homa_plain.proofs.CallOrder.{call_total, calls_are}
use Rattle.step_laws.specs.StepLaws.{LeavesOthers}
use Rattle.step_laws.proofs.ToldBy.{asked-clients, asked-servers, served-servers, served-clients}
use Rattle.step_laws.proofs.StepEnd.{left}

-- ---- calls in order

-- a call ties with itself
pub tied_call : (id : CallId) → eq_by_cmp call_cmp id id ≡ true
tied_call id = (calls_are id id).1 refl

-- the row that is set
pub get-set_row : {R : Type 0} (rows : RowsOf R) (id : CallId) (o : Option R) → get (set_row rows id o) id ≡ o
get-set_row rows id None = get-remove call_total rows id id ∙ ap (λ b. cond b None (get rows id)) (tied_call id)
get-set_row rows id (Some row) = get-insert call_total rows id row id ∙ ap (λ b. cond b (Some row) (get rows id)) (tied_call id)

-- the row of another call
pub set_row-others : {R : Type 0} (rows : RowsOf R) (id : CallId) (o : Option R) (q : CallId) → is_call q id ≡ false → get (set_row rows id o) q ≡ get rows q
set_row-others rows id None q e = get-remove call_total rows id q ∙ ap (λ b. cond b None (get rows q)) e
set_row-others rows id (Some row) q e = get-insert call_total rows id row q ∙ ap (λ b. cond b (Some row) (get rows q)) e

module _ (s : Settings) where
  pub asked-others : (id : CallId) (server : HostId) (did : Did ClientRow) (w : Work) → LeavesOthers (OfClient id) w (asked s id server did w)
  asked-others id server did w = record {
    clients = λ q e. ap (λ rows. get rows q) (asked-clients s id server did w) ∙ set_row-others w.host.clients id did.row q e;
    servers = λ q e. ap (λ rows. get rows q) (asked-servers s id server did w);
  }

  pub served-others : (id : CallId) (did : Did ServerRow) (w : Work) → LeavesOthers (OfServer id) w (served s id did w)
  served-others id did w = record {
    clients = λ q e. ap (λ rows. get rows q) (served-clients s id did w);
    servers = λ q e. ap (λ rows. get rows q) (served-servers s id did w) ∙ set_row-others w.host.servers id did.row q e;
  }

  pub none-others : (place : Place) (w : Work) → LeavesOthers place w w
  none-others place w = record { clients = λ q e. refl; servers = λ q e. refl }

  client_acted-others : (id : CallId) (o : Option ClientRow) (w : Work) → LeavesOthers (OfClient id) w (client_acted s id o w)
  client_acted-others id None w = none-others (OfClient id) w
  client_acted-others id (Some r) w = asked-others id r.server (client_acts s (moment s id w) id r) w

  server_acted-others : (id : CallId) (o : Option ServerRow) (w : Work) → LeavesOthers (OfServer id) w (server_acted s id o w)
  server_acted-others id None w = none-others (OfServer id) w
  server_acted-others id (Some row) w = served-others id (server_acts s (moment s id w) id row) w

  pub acts_at-others : (place : Place) (w : Work) → LeavesOthers place w (acts_at s place w)
  acts_at-others (OfClient id) w = client_acted-others id (get w.host.clients id) w
  acts_at-others (OfServer id) w = server_acted-others id (get w.host.servers id) w

  pub client_granted-others : (id : CallId) (grant : Body) (offset : ℕ) (o : Option ClientRow) (w : Work)
      → LeavesOthers (OfClient id) w (client_is_granted s id grant offset o w)
  client_granted-others id grant offset None w = none-others (OfClient id) w
  client_granted-others id grant offset (Some r) w =
      record { clients = λ q e. set_row-others w.host.clients id (Some (client_granted (now_of w) offset r)) q e; servers = λ q e. refl }

  pub server_granted-others : (id : CallId) (grant : Body) (offset : ℕ) (o : Option ServerRow) (w : Work)
      → LeavesOthers (OfServer id) w (server_is_granted s id grant offset o w)
  server_granted-others id grant offset None w = none-others (OfServer id) w
  server_granted-others id grant offset (Some row) w =
      record { clients = λ q e. refl; servers = λ q e. set_row-others w.host.servers id (Some (server_granted (now_of w) offset row)) q e }

  pub grants_at-others : (place : Place) (offset prio : ℕ) (w : Work) → LeavesOthers place w (grants_at s place offset prio w)
  grants_at-others (OfClient id) offset prio w = client_granted-others id (body.Grant offset prio) offset (get w.host.clients id) w
  grants_at-others (OfServer id) offset prio w = server_granted-others id (body.Grant offset prio) offset (get w.host.servers id) w

  pub client_leaves-others : (id : CallId) (o : Option ClientRow) (w v : Work) → client_leaves s id o w ≡ Some v → LeavesOthers (OfClient id) w v
  client_leaves-others id None w v e = cc
  client_leaves-others id (Some r) w v e =
      let l = left (next_range r.out s.seg) w v (λ range. request_leaves s id r range w) e in
      subst (LeavesOthers (OfClient id) w) l.is
      (record { clients = λ q e. set_row-others w.host.clients id (Some (client_sends s (now_of w) r)) q e; servers = λ q e. refl })

  pub state_leaves-others : (id : CallId) (row : ServerRow) (state : State) (w v : Work) → state_leaves s id row state w ≡ Some v
      → LeavesOthers (OfServer id) w v
  state_leaves-others id row (Replying response out order base count) w v e =
      let l = left (next_range out s.seg) w v
      (λ range. response_leaves s id row (response_content s (peer_cutoffs s w.host id.client).cutoffs response out range) range w) e in
      subst (LeavesOthers (OfServer id) w) l.is
      (record {
        clients = λ q e. refl;
        servers = λ q e. set_row-others w.host.servers id (Some (record row { state = state_sends s (now_of w) row.state })) q e;
      })
  state_leaves-others id row state w v e = cc

  server_leaves-others : (id : CallId) (o : Option ServerRow) (w v : Work) → server_leaves s id o w ≡ Some v → LeavesOthers (OfServer id) w v
  server_leaves-others id None w v e = cc
  server_leaves-others id (Some row) w v e = state_leaves-others id row row.state w v e

  pub leaves_from-others : (place : Place) (w v : Work) → leaves_from s place w ≡ Some v → LeavesOthers place w v
  leaves_from-others (OfClient id) w v e = client_leaves-others id (get w.host.clients id) w v e
  leaves_from-others (OfServer id) w v e = server_leaves-others id (get w.host.servers id) w v e

  pub starts-others : (server : HostId) (service : ℕ) (request : List ℕ) (w : Work)
      → LeavesOthers (OfClient (next_id w.host)) w (starts s server service request w)
  starts-others server service request w = record {
    clients = λ q e. set_row-others w.host.clients (next_id w.host) (Some (new_call s (now_of w) w.host.order server service request)) q e;
    servers = λ q e. refl;
  }
