-- A packet of a client comes to a call's server.
use Rattle.std.proofs.Common.{Result, Ok, Err, OnErr, ◌≡◌, ◌∙◌, ◌+◌, refl, sym, subst, ap, arith, true, List, ℕ}
use Rattle.homa_plain.specs.declared.settings.Settings.{Settings}
use Rattle.host_state.specs.Control.{Control, IsAt}
use Rattle.host_view.specs.declared.outbox.SentFrame.{SentFrame}
use Rattle.homa_plain.specs.declared.id.CallId.{CallId}
use Rattle.homa_host.specs.Parts.{host_of, IsKept}
use Rattle.homa_host.specs.Outcomes.{server_change}
use Rattle.homa_host.specs.ServerFollow.{FollowedServer}
use Rattle.homa_host.specs.declared.outcome.Change.{Change}
use Rattle.homa_host.specs.declared.parts.HostParts.{HostParts}
use Rattle.homa_host.specs.Settled.{SettledServer, is_quiet}
use Rattle.homa_host.proofs.Quiet.{quiet_settled}
use Rattle.homa_host.proofs.ServerKept.{server_parts}
use Rattle.homa_host.proofs.ServerHeard.{heard_work, heard_by}
use Rattle.homa_host.proofs.ServerTold.{HasSettled, q, rule, rule_is, settled_by, served_asks}
use Rattle.homa_host.proofs.Came.{heard_count}
use Rattle.plain_sets.specs.Maps.{get}
use Rattle.homa_plain.specs.Packets.{Packet, packet_between}
use Rattle.homa_plain.specs.AtServer.{server_gets}
use Rattle.homa_plain.specs.Rows.{ServerRow}
use Rattle.homa_plain.specs.Rules.{Did}
use Rattle.homa_plain.specs.Steps.{moment, served}
use Rattle.homa_in.specs.Pieces.{piece_in}
use Rattle.homa_server.specs.Answers.{service_in, served_of, IsAsked}
use Rattle.homa_host.specs.Amid.{Amid}
use Rattle.homa_host.proofs.Begun.{at-amid}
use Rattle.homa_host.proofs.ServerGets.{HasTaken, taken_by, touched_stays, gets_stands, gets_follows, gets_kept, gets_touched, gets_then, heard_host, row_now}
use Rattle.homa_host.proofs.parts.HostParts.server_gets.Given as given
use Rattle.homa_host.proofs.parts.HostParts.server_gets.Goals as goal
use Rattle.homa_host.proofs.parts.HostParts.server_gets.Goals.{After-settings-settings, After-follow_server, After-service_of-number}

-- what is so once the host heard the packet, which its table had taken up
taken : (g : given.Over) (c : After-settings-settings g)
    → HasTaken c.args.self.now c.args.from c.args.packet.now c.args.payload.now c.args.now c.hear.new.self c.receive.new.self c.receive.new.pool
    c.receive.new.scratch (g.V.Service.allows c.args.lent.now.service.now (g.V.Service.served c.args.lent.now.service.now)) c.in_ok-did.did
taken g c =
    let host = c.args.self.now in
    let heard = heard_by host c.requires.kept c.args.from c.args.packet.now c.args.now c.requires.begins.later c.begin.new.self c.hear.new.self
    c.begin.ensures c.hear.ensures.same c.settings-settings.ensures.sound c.hear.ensures.step in
    taken_by host c.args.from c.args.packet.now c.args.payload.now c.args.now c.hear.new.self c.receive.new.self c.receive.new.pool
    c.receive.new.scratch (g.V.Service.allows c.args.lent.now.service.now (g.V.Service.served c.args.lent.now.service.now)) c.in_ok-did.did
    heard c.requires.begins.from c.requires.begins.other c.requires.role c.requires.formed.call.0 (omega (arith, c.free-free.ensures.whole))
    c.in_ok-did.ensures.received c.rows-rows.ensures.placed

-- the books followed
followed : (g : given.Over) (c : After-follow_server g)
    → FollowedServer c.receive.new.self c.hear.new.self.settings.calls (server_change c.in_ok-did.did) c.args.self.now.books c.follow_server.new.books
followed g c = subst (λ (t : Change × ℕ). FollowedServer c.receive.new.self t.1 t.0 c.args.self.now.books c.follow_server.new.books)
    (λ i. (c.server_change-change.ensures i, ap (λ (s : Settings). s.calls) c.settings-settings.ensures.settings i)) c.follow_server.ensures

-- the control and the frames after it
abbrev Settles : (g : given.Over) → After-service_of-number g → Control → List SentFrame → Type 0
Settles g c control out = SettledServer c.call-id.result c.in_ok-did.did c.service_of-number.result c.head_of-head.result c.touched_version-touched.result
    c.hear.new.self c.args.lent.now.out.now control out

-- what came of the packet
settled : (g : given.Over) (c : After-service_of-number g) (control : Control) (out : List SentFrame) → Settles g c control out
    → HasTaken c.args.self.now c.args.from c.args.packet.now c.args.payload.now c.args.now c.hear.new.self c.receive.new.self c.receive.new.pool
    c.receive.new.scratch (g.V.Service.allows c.args.lent.now.service.now (g.V.Service.served c.args.lent.now.service.now)) c.in_ok-did.did
    → FollowedServer c.receive.new.self c.hear.new.self.settings.calls (server_change c.in_ok-did.did) c.args.self.now.books c.follow_server.new.books
    → HasSettled c.args.self.now c.args.from c.args.packet.now c.args.payload.now c.args.now
    (record {
      control = control;
      clients = c.args.self.now.clients;
      servers = c.receive.new.self;
      pool = c.receive.new.pool;
      books = c.follow_server.new.books;
      order = c.args.self.now.order + c.server_orders.result;
    })
    out c.receive.new.scratch (g.V.Service.allows c.args.lent.now.service.now (g.V.Service.served c.args.lent.now.service.now))
    c.in_ok-did.did
settled g c control out st x follows =
    let host = c.args.self.now in
    let heard : HostParts = record host { control = c.hear.new.self } in
    let s = c.hear.new.self.settings in
    let packet = q host x in
    let w = heard_work host c.args.from c.args.packet.now c.args.now in
    let row = row_now heard x.heard.kept x.taken in
    let touched = gets_touched heard x.heard.kept x.taken c.touched_version-touched.result (piece_in packet.body packet.payload)
    (λ r. c.touched_version-touched.ensures packet c.receive.new.pool packet.id r c.head_of-head.ensures) in
    settled_by host x control out c.follow_server.new.books (host.order + c.server_orders.result)
    (ap (λ n. host.order + n) c.server_orders.ensures.order) follows (λ a reply.
    let is : rule host x a ≡ served_of s (moment s packet.id w) c.call-id.result (piece_in packet.body packet.payload) row c.receive.new.scratch a
    c.in_ok-did.did = rule_is host x a reply ∙ ap (λ (id : CallId). served_of s (moment s packet.id w) id (piece_in packet.body packet.payload) row
    c.receive.new.scratch a c.in_ok-did.did) (sym c.call-id.ensures) in
    subst (λ (id : CallId). IsAt (served s id (rule host x a) w) control out) c.call-id.ensures
    (subst (λ (d : Did ServerRow). IsAt (served s c.call-id.result d w) control out) (sym is)
    (st.step (moment s packet.id w) packet row c.receive.new.scratch a w c.head_of-head.ensures
    (c.service_of-number.ensures packet.payload) touched (sym c.call-id.ensures)
    (at-amid w heard c.args.lent.now.out.now (subst (λ frames. Amid w heard frames) (sym c.requires.begins.out) x.heard.amid)))))

-- all holds then
settled_kept : (g : given.Over) (c : After-service_of-number g) (control : Control) (out : List SentFrame) → Settles g c control out
    → HasTaken c.args.self.now c.args.from c.args.packet.now c.args.payload.now c.args.now c.hear.new.self c.receive.new.self c.receive.new.pool
    c.receive.new.scratch (g.V.Service.allows c.args.lent.now.service.now (g.V.Service.served c.args.lent.now.service.now)) c.in_ok-did.did
    → FollowedServer c.receive.new.self c.hear.new.self.settings.calls (server_change c.in_ok-did.did) c.args.self.now.books c.follow_server.new.books
    → IsKept
    (record {
      control = control;
      clients = c.args.self.now.clients;
      servers = c.receive.new.self;
      pool = c.receive.new.pool;
      books = c.follow_server.new.books;
      order = c.args.self.now.order + c.server_orders.result;
    })
settled_kept g c control out st x follows =
    let host = c.args.self.now in
    gets_kept (record host { control = c.hear.new.self }) x.heard.kept x.taken control c.follow_server.new.books
    (host.order + c.server_orders.result) (ap (λ n. host.order + n) c.server_orders.ensures.order) follows st.sound st.same st.no_fewer st.opened

-- nothing is settled where nothing comes of the packet
quiet : (g : given.Over) (c : After-service_of-number g) → is_quiet c.in_ok-did.did c.touched_version-touched.result ≡ true
    → Settles g c c.hear.new.self c.args.lent.now.out.now
quiet g c e = quiet_settled c.call-id.result c.in_ok-did.did c.service_of-number.result c.head_of-head.result c.touched_version-touched.result
    c.hear.new.self c.args.lent.now.out.now c.settings-settings.ensures.sound e

err_any : {A E : Type 0} (r : Result A E) (P : Type 0) → P → OnErr r P
err_any (Ok x) P h = tt
err_any (Err e) P h = h

pub receive-requires-clause-pool : goal.receive-requires-clause-pool
receive-requires-clause-pool g c = server_parts c.args.self.now c.requires.kept.parts

pub returns-in_err-did-clause-kept : goal.returns-in_err-did-clause-kept
returns-in_err-did-clause-kept g c = subst (λ (p : HostParts). IsKept p) (λ i. record {
  control = c.args.self.now.control;
  clients = c.args.self.now.clients;
  servers = (sym c.in_err-did.ensures.same) i;
  pool = (sym c.in_err-did.ensures.same_pool) i;
  books = c.args.self.now.books;
  order = c.args.self.now.order;
}) c.requires.kept

pub returns-in_err-did-clause-same : goal.returns-in_err-did-clause-same
returns-in_err-did-clause-same g c = err_any c.from_residual.result _ (λ i. record {
  control = c.args.self.now.control;
  clients = c.args.self.now.clients;
  servers = c.in_err-did.ensures.same i;
  pool = c.in_err-did.ensures.same_pool i;
  books = c.args.self.now.books;
  order = c.args.self.now.order;
})

pub returns-in_err-did-clause-refused : goal.returns-in_err-did-clause-refused
returns-in_err-did-clause-refused g c =
    err_any c.from_residual.result _ (record { none = c.requires.begins.out; counted = c.in_err-did.ensures.not_served })

pub returns-in_err-did-clause-lent : goal.returns-in_err-did-clause-lent
returns-in_err-did-clause-lent g c = record { service = refl; out = refl; scratch = refl; before = c.receive.ensures.allows_before }

pub returns-in_err-did-clause-asks : goal.returns-in_err-did-clause-asks
returns-in_err-did-clause-asks g c =
    err_any c.from_residual.result _ (λ a.
    let host = c.args.self.now in
    let s = host.control.settings in
    let w = heard_work host c.args.from c.args.packet.now c.args.now in
    let q : Packet = packet_between c.args.from host.control.id c.args.packet.now c.args.payload.now in
    let id : CallId = record { client = c.args.from; inc = c.args.packet.now.inc; seq = c.args.packet.now.seq } in
    let number = service_in (piece_in c.args.packet.now.body c.args.payload.now) in
    served_asks s q.id (server_gets s (moment s q.id w) q a (get w.host.servers q.id)) w (record { id = id; service = number; request = c.receive.new.scratch })
    (heard_count s c.args.from c.args.packet.now.sender c.args.packet.now.body (host_of host) c.args.now)
    (subst (IsAsked id number c.receive.new.scratch)
    (gets_then host c.requires.kept c.args.from c.requires.begins.other c.args.packet.now c.args.payload.now c.requires.role c.args.now
    (omega (arith, c.free-free.ensures.whole)) a w w.host.peers
    (heard_host s c.args.from c.args.packet.now.sender c.args.packet.now.body host c.args.now)) (c.in_err-did.ensures.asks a)))

pub touched_version-touched-requires : goal.touched_version-touched-requires
touched_version-touched-requires g c =
    let x = taken g (goal.at.touched_version-touched-requires g c).After-settings-settings in
    record { stands = touched_stays _ c.in_ok-did.did (gets_stands (record c.args.self.now { control = c.hear.new.self }) x.heard.kept x.taken) }

pub follow_server-requires : goal.follow_server-requires
follow_server-requires g c =
    let x = taken g (goal.at.follow_server-requires g c).After-settings-settings in
    gets_follows (record c.args.self.now { control = c.hear.new.self }) x.heard.kept x.taken c.settings-settings.result.now.calls
    c.server_change-change.result (ap (λ (s : Settings). s.calls) c.settings-settings.ensures.settings) c.server_change-change.ensures

pub returns-then-is_quiet-clause-kept : goal.returns-then-is_quiet-clause-kept
returns-then-is_quiet-clause-kept g c =
    let at = goal.at.returns-then-is_quiet-clause-kept g c in
    settled_kept g at.After-service_of-number _ _ (quiet g at.After-service_of-number (sym c.is_quiet.ensures ∙ c.if-is_quiet.true))
    (taken g at.After-settings-settings) (followed g at.After-follow_server)

pub returns-then-is_quiet-clause-step : goal.returns-then-is_quiet-clause-step
returns-then-is_quiet-clause-step g c =
    let at = goal.at.returns-then-is_quiet-clause-step g c in
    let x = settled g at.After-service_of-number _ _ (quiet g at.After-service_of-number (sym c.is_quiet.ensures ∙ c.if-is_quiet.true))
    (taken g at.After-settings-settings) (followed g at.After-follow_server) in
    x.step

pub returns-then-is_quiet-clause-served : goal.returns-then-is_quiet-clause-served
returns-then-is_quiet-clause-served g c =
    let at = goal.at.returns-then-is_quiet-clause-served g c in
    let x = settled g at.After-service_of-number _ _ (quiet g at.After-service_of-number (sym c.is_quiet.ensures ∙ c.if-is_quiet.true))
    (taken g at.After-settings-settings) (followed g at.After-follow_server) in
    record { counted = rw x.ran c.in_ok-did.ensures.served; answered = x.answered; allowed = x.allowed }

pub returns-clause-kept : goal.returns-clause-kept
returns-clause-kept g c =
    let at = goal.at.returns-clause-kept g c in
    settled_kept g at.After-service_of-number _ _ (c.settle.ensures) (taken g at.After-settings-settings) (followed g at.After-follow_server)

pub returns-clause-step : goal.returns-clause-step
returns-clause-step g c =
    let at = goal.at.returns-clause-step g c in
    let x = settled g at.After-service_of-number _ _ (c.settle.ensures) (taken g at.After-settings-settings) (followed g at.After-follow_server) in
    x.step

pub returns-clause-served : goal.returns-clause-served
returns-clause-served g c =
    let at = goal.at.returns-clause-served g c in
    let x = settled g at.After-service_of-number _ _ (c.settle.ensures) (taken g at.After-settings-settings) (followed g at.After-follow_server) in
    record { counted = rw x.ran c.in_ok-did.ensures.served; answered = x.answered; allowed = x.allowed }

pub returns-clause-lent : goal.returns-clause-lent
returns-clause-lent g c = record { service = refl; out = refl; scratch = refl; before = c.receive.ensures.allows_before }
