use Rattle.std.proofs.Common.{◌≡◌, Some, Option, sym, ap, subst, ◌∙◌, length}
use Rattle.homa_plain.specs.declared.id.CallId.{CallId}
use Rattle.homa_plain.specs.Rows.{ServerRow}
use Rattle.msg_pool.specs.Pool.{Pool}
use Rattle.homa_in.specs.Part.{Part}
use Rattle.homa_in.specs.Pooled.{AreIn, Moves}
use Rattle.homa_in.proofs.MoveLaws.{still}
use Rattle.host_places.specs.Placed.{StandsAt, set_at}
use Rattle.homa_server.specs.Held.{HeldServer, response_in, seen_state, seen_server, state_part}
use Rattle.homa_in.specs.Sends.{IfSent, IsAffordable}
use Rattle.homa_server.specs.Answers.{state_emits, server_sends}
use Rattle.homa_server.specs.Table.{Servers, ServerMoved, request_at}
use Rattle.homa_server.proofs.StandLaws.{lent_row, in_pool, moved_at}
use Rattle.homa_server.proofs.table.ServerTable.emit.Goals as goal

pub returns-clause-emitted : goal.returns-clause-emitted
returns-clause-emitted c =
    let t = c.self.inside in
    subst (λ (v : Servers). (id : CallId) (r : HeldServer) (pool : Pool) → StandsAt v.rows id c.args.slot r →
    c.emit.result ≡ state_emits v.settings c.args.credit (seen_state pool r.state)) c.self.view_is
    (λ id r pool stands. subst (λ (x : HeldServer). c.emit.result ≡ state_emits t.settings c.args.credit (seen_state pool x.state))
    (lent_row t.rows.room t.rows.rows c.args.slot c.row_mut.ensures.placed c.row_mut.result.now c.row_mut.ensures.row id r stands)
    (c.emit.ensures.emitted pool))

pub returns-clause-bytes : goal.returns-clause-bytes
returns-clause-bytes c =
    let t = c.self.inside in
    subst (λ (v : Servers). (id : CallId) (r : HeldServer) → StandsAt v.rows id c.args.slot r → IfSent c.emit.result
    (λ from to. IsAffordable (length (response_in r.state)) v.settings.seg c.args.credit from to)) c.self.view_is
    (λ id r stands.
    subst (λ (x : HeldServer). IfSent c.emit.result (λ from to. IsAffordable (length (response_in x.state)) t.settings.seg c.args.credit from to))
    (lent_row t.rows.room t.rows.rows c.args.slot c.row_mut.ensures.placed c.row_mut.result.now c.row_mut.ensures.row id r stands) c.emit.ensures.bytes)

pub returns-clause-moved : goal.returns-clause-moved
returns-clause-moved c =
    let t = c.self.inside in
    let after = c.emit.new.self in
    subst (λ (v : Servers). (id : CallId) (r : HeldServer) (pool : Pool) → StandsAt v.rows id c.args.slot r → AreIn pool (request_at v.rows)
    → ServerMoved id v pool (record { host = t.host; settings = t.settings; rows = set_at t.rows.rows c.args.slot after }) pool
    (Some (server_sends v.settings c.args.now (seen_server pool r) c.emit.result))) c.self.view_is
    (λ id r pool stands are.
    let same : c.row_mut.result.now ≡ r =
    lent_row t.rows.room t.rows.rows c.args.slot c.row_mut.ensures.placed c.row_mut.result.now c.row_mut.ensures.row id r stands in
    let part : state_part after.state ≡ state_part r.state = c.emit.ensures.part ∙ ap (λ (x : HeldServer). state_part x.state) same in
    let moves : Moves pool (state_part r.state) pool (state_part after.state) = subst (λ (o : Option Part). Moves pool (state_part r.state) pool o) (sym part)
    (still pool (state_part r.state) (in_pool t.rows.rows c.args.slot id r stands pool are)) in
    subst (λ (row : ServerRow). ServerMoved id (record { host = t.host; settings = t.settings; rows = t.rows.rows }) pool
    (record { host = t.host; settings = t.settings; rows = set_at t.rows.rows c.args.slot after }) pool (Some row))
    (c.emit.ensures.row pool ∙ ap (λ (x : HeldServer). server_sends t.settings c.args.now (seen_server pool x) c.emit.result) same)
    (moved_at t.rows.room t.rows.rows c.args.slot c.row_mut.ensures.placed t.host t.settings id r stands pool pool after are moves))
