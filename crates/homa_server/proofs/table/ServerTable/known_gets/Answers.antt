use Rattle.std.proofs.Common.{◌≡◌, Some, sym, ap, subst, ◌∙◌}
use Rattle.std.specs.Result.{IfOk, OnErr}
use Rattle.msg_pool.specs.Pool.{Pool}
use Rattle.homa_in.specs.Pooled.{AreIn, Moves}
use Rattle.host_places.specs.Placed.{ArePlaced, set_at}
use Rattle.homa_server.specs.Held.{HeldServer, state_part}
use Rattle.homa_in.specs.Pieces.{piece_in}
use Rattle.homa_server.specs.Answers.{service_in}
use Rattle.homa_server.specs.Lending.{HasAsked, HasTaken}
use Rattle.homa_server.specs.Table.{Servers, ServerRows, request_at, slot_at}
use Rattle.homa_server.proofs.ArrivingLaws.{if_ok}
use Rattle.homa_server.proofs.StandLaws.{in_pool, still_at}
use Rattle.homa_server.proofs.KnownLaws.{known_there, known_stands, known_still}
use Rattle.homa_server.proofs.ServedLaws.{if_ok_all, either_way, on_err_so, on_err_both, new-same, asked_at, served_at}
use Rattle.homa_server.proofs.table.ServerTable.known_gets.Goals as goal

pub row_mut-row-requires : goal.row_mut-row-requires
row_mut-row-requires g c =
    let t = c.self.inside in
    known_there t.settings.served t.rows.rows c.args.id c.args.slot
    (subst (λ (v : Servers). ArePlaced v.settings.served v.rows) (sym c.self.view_is) c.requires.placed)
    (subst (λ (v : Servers). Some c.args.slot ≡ slot_at v.rows c.args.id) (sym c.self.view_is) c.requires.stands)

pub gets-requires-clause-lent : goal.gets-requires-clause-lent
gets-requires-clause-lent g c =
    let t = c.self.inside in
    let placed = subst (λ (v : Servers). ArePlaced v.settings.served v.rows) (sym c.self.view_is) c.requires.placed in
    let here = subst (λ (v : Servers). Some c.args.slot ≡ slot_at v.rows c.args.id) (sym c.self.view_is) c.requires.stands in
    let stands = known_stands t.settings.served t.rows.rows c.args.id c.args.slot placed here c.row_mut-row.result.now c.row_mut-row.ensures.row in
    record {
      served = c.requires.served;
      pool = in_pool t.rows.rows c.args.slot c.args.id c.row_mut-row.result.now stands c.args.lent.now.pool.now
          (subst (λ (v : Servers). AreIn c.args.lent.now.pool.now (request_at v.rows)) (sym c.self.view_is) c.requires.pool);
    }

pub returns-clause-taken : goal.returns-clause-taken
returns-clause-taken g c =
    let t = c.self.inside in
    let rows = t.rows.rows in
    let row = c.row_mut-row.result.now in
    let after = c.gets.new.self in
    let placed = subst (λ (v : Servers). ArePlaced v.settings.served v.rows) (sym c.self.view_is) c.requires.placed in
    let here = subst (λ (v : Servers). Some c.args.slot ≡ slot_at v.rows c.args.id) (sym c.self.view_is) c.requires.stands in
    let stands = known_stands t.settings.served rows c.args.id c.args.slot placed here row c.row_mut-row.ensures.row in
    let are = subst (λ (v : Servers). AreIn c.args.lent.now.pool.now (request_at v.rows)) (sym c.self.view_is) c.requires.pool in
    subst (λ (v : Servers). IfOk c.gets.result (HasTaken g.V.Service.served g.V.Service.allows v c.args.id c.args.body.now c.args.payload.now
    c.args.at.now c.args.at.order c.args.lent.now (record { host = t.host; settings = t.settings; rows = set_at rows c.args.slot after }) c.gets.new.lent))
    c.self.view_is
    (if_ok_all c.gets.result _ _ _ _ c.gets.ensures.did c.gets.ensures.left c.gets.ensures.served (λ answer did left served. record {
      received = λ role server inc sent level.
          served_at t.settings.served rows c.args.slot placed t.host t.settings c.args.id row stands c.args.body.now c.args.payload.now role server inc sent
          level c.args.at.now c.args.at.order c.args.lent.now.pool.now c.gets.new.lent.pool.now after are left.moves c.gets.new.lent.scratch.now
          (λ request response hold. g.V.Service.allows c.args.lent.now.service.now (g.V.Service.served c.args.lent.now.service.now)
          (service_in (piece_in c.args.body.now c.args.payload.now)) request response hold) answer
          (did c.args.id t.host) left.slot left.named left.idle served.allowed;
      counted = served.counted;
    }))

pub returns-clause-pool : goal.returns-clause-pool
returns-clause-pool g c =
    let t = c.self.inside in
    let rows = t.rows.rows in
    let row = c.row_mut-row.result.now in
    let after = c.gets.new.self in
    let placed = subst (λ (v : Servers). ArePlaced v.settings.served v.rows) (sym c.self.view_is) c.requires.placed in
    let here = subst (λ (v : Servers). Some c.args.slot ≡ slot_at v.rows c.args.id) (sym c.self.view_is) c.requires.stands in
    let stands = known_stands t.settings.served rows c.args.id c.args.slot placed here row c.row_mut-row.ensures.row in
    let are = subst (λ (v : Servers). AreIn c.args.lent.now.pool.now (request_at v.rows)) (sym c.self.view_is) c.requires.pool in
    let moves : Moves c.args.lent.now.pool.now (state_part row.state) c.gets.new.lent.pool.now (state_part after.state) =
    either_way c.gets.result _ (if_ok c.gets.result _ _ (λ did left. left.moves) c.gets.ensures.left)
    (on_err_so c.gets.result _ _
    (on_err_both c.gets.result _ _ c.gets.ensures.same (on_err_so c.gets.result _ _ c.gets.ensures.refused (λ r. r.pool)))
    (λ both.
    subst (λ (p : Pool). Moves c.args.lent.now.pool.now (state_part row.state) p (state_part after.state)) (sym both.1)
    (known_still t.settings.served rows c.args.id c.args.slot placed here row c.row_mut-row.ensures.row after c.args.lent.now.pool.now
    (ap (λ (r : HeldServer). state_part r.state) both.0) are))) in
    still_at t.settings.served rows c.args.slot placed t.host t.settings c.args.id row stands c.args.lent.now.pool.now c.gets.new.lent.pool.now
    after are moves

pub returns-clause-asked : goal.returns-clause-asked
returns-clause-asked g c =
    let t = c.self.inside in
    let rows = t.rows.rows in
    let row = c.row_mut-row.result.now in
    let after = c.gets.new.self in
    let placed = subst (λ (v : Servers). ArePlaced v.settings.served v.rows) (sym c.self.view_is) c.requires.placed in
    let here = subst (λ (v : Servers). Some c.args.slot ≡ slot_at v.rows c.args.id) (sym c.self.view_is) c.requires.stands in
    let stands = known_stands t.settings.served rows c.args.id c.args.slot placed here row c.row_mut-row.ensures.row in
    let old : Servers = record { host = t.host; settings = t.settings; rows = rows } in
    subst (λ (v : Servers). OnErr c.gets.result (HasAsked g.V.Service.served v c.args.id c.args.body.now c.args.payload.now c.args.at.now c.args.at.order
    c.args.lent.now (record { host = t.host; settings = t.settings; rows = set_at rows c.args.slot after }) c.gets.new.lent)) c.self.view_is
    (on_err_so c.gets.result _ _ (on_err_both c.gets.result _ _ c.gets.ensures.asks
    (on_err_both c.gets.result _ _ c.gets.ensures.same c.gets.ensures.refused)) (λ e. record {
      asks = λ role server inc sent level.
          asked_at t.settings.served rows c.args.slot placed t.host t.settings c.args.id row stands c.args.body.now c.args.payload.now role server inc sent
          level c.args.at.now c.args.at.order c.args.lent.now.pool.now (service_in (piece_in c.args.body.now c.args.payload.now))
          c.gets.new.lent.scratch.now (e.0 c.args.id);
      same = ap (λ (r : HeldServer). record old { rows = set_at rows c.args.slot r }) e.1.0
          ∙ ap (λ (m : ServerRows). record old { rows = m })
          (new-same t.settings.served rows c.args.slot placed t.host t.settings c.args.id row stands);
      refused = e.1.1;
    }))
