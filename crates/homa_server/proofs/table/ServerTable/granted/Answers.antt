use Rattle.std.proofs.Common.{◌≡◌, Some, sym, ap, subst, ◌∙◌}
use Rattle.homa_plain.specs.declared.id.CallId.{CallId}
use Rattle.homa_plain.specs.Rows.{ServerRow}
use Rattle.homa_plain.specs.Sending.{server_granted}
use Rattle.msg_pool.specs.Pool.{Pool}
use Rattle.homa_in.specs.Pooled.{AreIn, Moves, IsInPool}
use Rattle.host_places.specs.Placed.{StandsAt, set_at}
use Rattle.homa_server.specs.Held.{HeldServer, seen_server, state_part}
use Rattle.homa_server.specs.Answers.{IsGrantable}
use Rattle.homa_server.specs.Table.{Servers, ServerMoved, request_at}
use Rattle.homa_server.proofs.StandLaws.{some_spot, lent_row, in_pool, moved_at}
use Rattle.homa_server.proofs.table.ServerTable.granted.Goals as goal

pub granted-requires-clause-up : goal.granted-requires-clause-up
granted-requires-clause-up c =
    let t = c.self.inside in
    let there = some_spot c.args.self.now.rows c.args.slot c.requires.stands in
    let stands : StandsAt t.rows.rows there.0.0 c.args.slot there.0.1 =
    subst (λ (v : Servers). StandsAt v.rows there.0.0 c.args.slot there.0.1) (sym c.self.view_is) there.1 in
    let same : c.row_mut.result.now ≡ there.0.1 =
    lent_row t.rows.room t.rows.rows c.args.slot c.row_mut.ensures.placed c.row_mut.result.now c.row_mut.ensures.row there.0.0 there.0.1 stands in
    subst (λ (x : HeldServer). IsGrantable x.state c.args.offset) (sym same) (c.requires.up there.0.0 there.0.1 there.1)

pub returns : goal.returns
returns c =
    let t = c.self.inside in
    let after = c.granted.new.self in
    subst (λ (v : Servers). (id : CallId) (r : HeldServer) (pool : Pool) → StandsAt v.rows id c.args.slot r → AreIn pool (request_at v.rows)
    → ServerMoved id v pool (record { host = t.host; settings = t.settings; rows = set_at t.rows.rows c.args.slot after }) pool
    (Some (server_granted c.args.now c.args.offset (seen_server pool r)))) c.self.view_is
    (λ id r pool stands are.
    let same : c.row_mut.result.now ≡ r =
    lent_row t.rows.room t.rows.rows c.args.slot c.row_mut.ensures.placed c.row_mut.result.now c.row_mut.ensures.row id r stands in
    let moves : Moves pool (state_part r.state) pool (state_part after.state) =
    subst (λ (x : HeldServer). IsInPool pool (state_part x.state) → Moves pool (state_part x.state) pool (state_part after.state)) same
    (c.granted.ensures.part pool) (in_pool t.rows.rows c.args.slot id r stands pool are) in
    subst (λ (row : ServerRow). ServerMoved id (record { host = t.host; settings = t.settings; rows = t.rows.rows }) pool
    (record { host = t.host; settings = t.settings; rows = set_at t.rows.rows c.args.slot after }) pool (Some row))
    (c.granted.ensures.row pool ∙ ap (λ (x : HeldServer). server_granted c.args.now c.args.offset (seen_server pool x)) same)
    (moved_at t.rows.room t.rows.rows c.args.slot c.row_mut.ensures.placed t.host t.settings id r stands pool pool after are moves))
