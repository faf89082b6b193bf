use Rattle.std.proofs.Common.{◌≡◌, ℕ, Option, sym, ap, subst, ◌∙◌}
use Rattle.homa_plain.specs.declared.id.CallId.{CallId}
use Rattle.homa_plain.specs.Timers.{server_acts}
use Rattle.homa_in.specs.Part.{Part}
use Rattle.homa_in.specs.Pieces.{moment_with}
use Rattle.homa_in.specs.Pooled.{AreIn, IsInPool, Moves}
use Rattle.homa_in.proofs.MoveLaws.{still}
use Rattle.host_places.specs.Placed.{Table, StandsAt, set_at}
use Rattle.homa_server.specs.Held.{HeldServer, seen_server, state_part}
use Rattle.homa_server.specs.Answers.{HasTimer, acted_of, HasServerActed}
use Rattle.homa_server.specs.Table.{Servers, ServerMoved, request_at, server_at}
use Rattle.homa_server.proofs.StandLaws.{some_spot, lent_row, found_spot, in_pool, spot-set, server_new, moved_new, still_at}
use Rattle.homa_server.proofs.ActLaws.{timer_runs, ends, stays, ends_left, stays_left, after-ends, after-stays, acts_did, out_is, server_out}
use Rattle.homa_server.proofs.ActLaws.{still_out, moved_out}
use Rattle.homa_server.proofs.table.ServerTable.act.Goals as goal

pub act-act-requires-clause-due : goal.act-act-requires-clause-due
act-act-requires-clause-due c =
    let there = some_spot c.args.self.now.rows c.args.slot c.requires.stands in
    let stands : StandsAt c.self.inside.rows.rows there.0.0 c.args.slot there.0.1 =
    subst (λ (v : Servers). StandsAt v.rows there.0.0 c.args.slot there.0.1) (sym c.self.view_is) there.1 in
    let same = lent_row c.self.inside.rows.room c.self.inside.rows.rows c.args.slot c.row_mut.ensures.placed c.row_mut.result.now
    c.row_mut.ensures.row there.0.0 there.0.1 stands in
    subst (HasTimer c.self.inside.settings) (sym same) (subst (λ (v : Servers). HasTimer v.settings there.0.1) (sym c.self.view_is)
    (timer_runs c.args.self.now.rows c.args.slot there.0.0 there.0.1 there.1 c.args.self.now.settings c.args.pool.now c.args.now c.requires.pool
    (c.requires.due there.0.0 there.0.1 there.1)))

pub remove-row-requires : goal.remove-row-requires
remove-row-requires c =
    let t = c.self.inside in
    let there = some_spot c.args.self.now.rows c.args.slot c.requires.stands in
    let stands : StandsAt t.rows.rows there.0.0 c.args.slot there.0.1 =
    subst (λ (v : Servers). StandsAt v.rows there.0.0 c.args.slot there.0.1) (sym c.self.view_is) there.1 in
    spot-set t.rows.room t.rows.rows c.args.slot c.row_mut.ensures.placed t.host t.settings there.0.0 there.0.1 stands c.act-act.new.self

pub close-requires : goal.close-requires
close-requires c =
    let t = c.self.inside in
    let rows = t.rows.rows in
    let after = c.act-act.new.self in
    let there = some_spot c.args.self.now.rows c.args.slot c.requires.stands in
    let stands : StandsAt rows there.0.0 c.args.slot there.0.1 =
    subst (λ (v : Servers). StandsAt v.rows there.0.0 c.args.slot there.0.1) (sym c.self.view_is) there.1 in
    let same = lent_row t.rows.room rows c.args.slot c.row_mut.ensures.placed c.row_mut.result.now c.row_mut.ensures.row there.0.0 there.0.1 stands in
    let out = out_is t.rows.room rows c.args.slot c.row_mut.ensures.placed t.host t.settings there.0.0 there.0.1 stands after c.remove-row.result
    c.remove-row.ensures.placed c.remove-row.ensures.row
    c.remove-row.new.self.rows (ap (λ (x : Table HeldServer). x.rows) c.remove-row.ensures.removed) in
    let are = subst (λ (v : Servers). AreIn c.args.pool.now (request_at v.rows)) (sym c.self.view_is) c.requires.pool in
    subst (IsInPool c.args.pool.now)
    (sym (ap (λ (x : CallId × HeldServer). state_part x.1.state) out ∙ c.act-act.ensures.part ∙ ap (λ (x : HeldServer). state_part x.state) same))
    (in_pool rows c.args.slot there.0.0 there.0.1 stands c.args.pool.now are)

-- ---- the row goes

pub returns-in-Drop-clause-acted : goal.returns-in-Drop-clause-acted
returns-in-Drop-clause-acted c =
    let t = c.self.inside in
    let rows = t.rows.rows in
    let after = c.act-act.new.self in
    let rest = c.remove-row.new.self.rows in
    let pool = c.args.pool.now in
    let are = subst (λ (v : Servers). AreIn pool (request_at v.rows)) (sym c.self.view_is) c.requires.pool in
    subst (λ (v : Servers). (id : CallId) (r : HeldServer) (free n : ℕ) → StandsAt v.rows id c.args.slot r
    → server_acts v.settings (moment_with v.host c.args.now c.args.order free n) id (seen_server pool r)
    ≡ acted_of v.settings (moment_with v.host c.args.now c.args.order free n) id (server_at c.close.new.pool rest id) c.act-act.result) c.self.view_is
    (λ id r free n stands.
    let same = lent_row t.rows.room rows c.args.slot c.row_mut.ensures.placed c.row_mut.result.now c.row_mut.ensures.row id r stands in
    let found = found_spot t.rows.room rows c.args.slot c.row_mut.ensures.placed (c.in-Some.id, c.in-Some.field-0-1.now) c.in-Some.ensures.row id r stands in
    let within = subst (λ (x : HeldServer). IsInPool pool (state_part x.state)) (sym same) (in_pool rows c.args.slot id r stands pool are) in
    let part = c.act-act.ensures.part ∙ ap (λ (x : HeldServer). state_part x.state) same in
    let gone = server_out t.rows.room rows c.args.slot c.row_mut.ensures.placed t.host t.settings id r stands after c.remove-row.result
    c.remove-row.ensures.placed c.remove-row.ensures.row
    rest (ap (λ (x : Table HeldServer). x.rows) c.remove-row.ensures.removed) pool c.close.new.pool are part c.close.ensures in
    acts_did t.settings (moment_with t.host c.args.now c.args.order free n) pool c.in-Some.id id c.row_mut.result.now r after c.act-act.result
    (server_at c.close.new.pool rest id)
    (ap (λ (x : CallId × HeldServer). x.0) found) same (c.act-act.ensures.did t.host free n pool within)
    (after-ends pool after c.act-act.result (ends c.act-act.result c.in-Drop.is) ∙ sym gone))

pub returns-in-Drop-clause-left : goal.returns-in-Drop-clause-left
returns-in-Drop-clause-left c =
    let t = c.self.inside in
    let rows = t.rows.rows in
    let rest = c.remove-row.new.self.rows in
    let pool = c.args.pool.now in
    let are = subst (λ (v : Servers). AreIn pool (request_at v.rows)) (sym c.self.view_is) c.requires.pool in
    subst (λ (v : Servers). (id : CallId) (r : HeldServer) → StandsAt v.rows id c.args.slot r → HasServerActed c.act-act.result
    (server_at c.close.new.pool rest id)) c.self.view_is
    (λ id r stands.
    let same = lent_row t.rows.room rows c.args.slot c.row_mut.ensures.placed c.row_mut.result.now c.row_mut.ensures.row id r stands in
    let part = c.act-act.ensures.part ∙ ap (λ (x : HeldServer). state_part x.state) same in
    ends_left c.act-act.result (ends c.act-act.result c.in-Drop.is) _
    (server_out t.rows.room rows c.args.slot c.row_mut.ensures.placed t.host t.settings id r stands c.act-act.new.self c.remove-row.result
    c.remove-row.ensures.placed c.remove-row.ensures.row
    rest (ap (λ (x : Table HeldServer). x.rows) c.remove-row.ensures.removed) pool c.close.new.pool are part c.close.ensures))

pub returns-in-Drop-clause-moved : goal.returns-in-Drop-clause-moved
returns-in-Drop-clause-moved c =
    let t = c.self.inside in
    let rows = t.rows.rows in
    let rest = c.remove-row.new.self.rows in
    let pool = c.args.pool.now in
    let are = subst (λ (v : Servers). AreIn pool (request_at v.rows)) (sym c.self.view_is) c.requires.pool in
    subst (λ (v : Servers). (id : CallId) (r : HeldServer) → StandsAt v.rows id c.args.slot r
    → ServerMoved id v pool (record { host = t.host; settings = t.settings; rows = rest }) c.close.new.pool (server_at c.close.new.pool rest id)) c.self.view_is
    (λ id r stands.
    let same = lent_row t.rows.room rows c.args.slot c.row_mut.ensures.placed c.row_mut.result.now c.row_mut.ensures.row id r stands in
    moved_out t.rows.room rows c.args.slot c.row_mut.ensures.placed t.host t.settings id r stands c.act-act.new.self c.remove-row.result
    c.remove-row.ensures.placed c.remove-row.ensures.row
    rest (ap (λ (x : Table HeldServer). x.rows) c.remove-row.ensures.removed) pool c.close.new.pool are
    (c.act-act.ensures.part ∙ ap (λ (x : HeldServer). state_part x.state) same) c.close.ensures)

pub returns-in-Drop-clause-pool : goal.returns-in-Drop-clause-pool
returns-in-Drop-clause-pool c =
    let t = c.self.inside in
    let rows = t.rows.rows in
    let there = some_spot c.args.self.now.rows c.args.slot c.requires.stands in
    let stands : StandsAt rows there.0.0 c.args.slot there.0.1 =
    subst (λ (v : Servers). StandsAt v.rows there.0.0 c.args.slot there.0.1) (sym c.self.view_is) there.1 in
    let same = lent_row t.rows.room rows c.args.slot c.row_mut.ensures.placed c.row_mut.result.now c.row_mut.ensures.row there.0.0 there.0.1 stands in
    let are = subst (λ (v : Servers). AreIn c.args.pool.now (request_at v.rows)) (sym c.self.view_is) c.requires.pool in
    still_out t.rows.room rows c.args.slot c.row_mut.ensures.placed t.host t.settings there.0.0 there.0.1 stands c.act-act.new.self
    c.remove-row.result c.remove-row.ensures.placed c.remove-row.ensures.row
    c.remove-row.new.self.rows (ap (λ (x : Table HeldServer). x.rows) c.remove-row.ensures.removed) c.args.pool.now c.close.new.pool are
    (c.act-act.ensures.part ∙ ap (λ (x : HeldServer). state_part x.state) same) c.close.ensures

-- ---- the row stays

-- its part stays
kept_part : (c : goal.In_default-act) (id : CallId) (r : HeldServer) → StandsAt c.self.inside.rows.rows id c.args.slot r
    → Moves c.args.pool.now (state_part r.state) c.args.pool.now (state_part c.act-act.new.self.state)
kept_part c id r stands =
    let t = c.self.inside in
    let same = lent_row t.rows.room t.rows.rows c.args.slot c.row_mut.ensures.placed c.row_mut.result.now c.row_mut.ensures.row id r stands in
    let are = subst (λ (v : Servers). AreIn c.args.pool.now (request_at v.rows)) (sym c.self.view_is) c.requires.pool in
    subst (λ (o : Option Part). Moves c.args.pool.now (state_part r.state) c.args.pool.now o)
    (sym (c.act-act.ensures.part ∙ ap (λ (x : HeldServer). state_part x.state) same))
    (still c.args.pool.now (state_part r.state) (in_pool t.rows.rows c.args.slot id r stands c.args.pool.now are))

pub returns-in_default-act : goal.returns-in_default-act
returns-in_default-act c =
    let t = c.self.inside in
    let rows = t.rows.rows in
    let after = c.act-act.new.self in
    let pool = c.args.pool.now in
    let are = subst (λ (v : Servers). AreIn pool (request_at v.rows)) (sym c.self.view_is) c.requires.pool in
    record {
      acted = subst (λ (v : Servers). (id : CallId) (r : HeldServer) (free n : ℕ) → StandsAt v.rows id c.args.slot r
          → server_acts v.settings (moment_with v.host c.args.now c.args.order free n) id (seen_server pool r)
          ≡ acted_of v.settings (moment_with v.host c.args.now c.args.order free n) id (server_at pool (set_at rows c.args.slot after) id)
          c.act-act.result) c.self.view_is
          (λ id r free n stands.
          let same = lent_row t.rows.room rows c.args.slot c.row_mut.ensures.placed c.row_mut.result.now c.row_mut.ensures.row id r stands in
          let found =
          found_spot t.rows.room rows c.args.slot c.row_mut.ensures.placed (c.in-Some.id, c.in-Some.field-0-1.now) c.in-Some.ensures.row id r stands in
          let within = subst (λ (x : HeldServer). IsInPool pool (state_part x.state)) (sym same) (in_pool rows c.args.slot id r stands pool are) in
          acts_did t.settings (moment_with t.host c.args.now c.args.order free n) pool c.in-Some.id id c.row_mut.result.now r after c.act-act.result
          (server_at pool (set_at rows c.args.slot after) id)
          (ap (λ (x : CallId × HeldServer). x.0) found) same (c.act-act.ensures.did t.host free n pool within)
          (after-stays pool after c.act-act.result (stays c.act-act.result c.in_default-act.not-Drop c.in_default-act.not-Free)
          ∙ sym (server_new t.rows.room rows c.args.slot c.row_mut.ensures.placed t.host t.settings id r stands pool pool after are
          (kept_part c id r stands))));
      left = subst (λ (v : Servers). (id : CallId) (r : HeldServer) → StandsAt v.rows id c.args.slot r → HasServerActed c.act-act.result
          (server_at pool (set_at rows c.args.slot after) id)) c.self.view_is
          (λ id r stands. stays_left c.act-act.result (stays c.act-act.result c.in_default-act.not-Drop c.in_default-act.not-Free) _ _
          (server_new t.rows.room rows c.args.slot c.row_mut.ensures.placed t.host t.settings id r stands pool pool after are (kept_part c id r stands)));
      asks = c.act-act.ensures.asks;
      moved = subst (λ (v : Servers). (id : CallId) (r : HeldServer) → StandsAt v.rows id c.args.slot r
          → ServerMoved id v pool (record { host = t.host; settings = t.settings; rows = set_at rows c.args.slot after }) pool
          (server_at pool (set_at rows c.args.slot after) id)) c.self.view_is
          (λ id r stands. moved_new t.rows.room rows c.args.slot c.row_mut.ensures.placed t.host t.settings id r stands pool pool after are
          (kept_part c id r stands));
      pool =
          let there = some_spot c.args.self.now.rows c.args.slot c.requires.stands in
          let stands : StandsAt rows there.0.0 c.args.slot there.0.1 =
          subst (λ (v : Servers). StandsAt v.rows there.0.0 c.args.slot there.0.1) (sym c.self.view_is) there.1 in
          still_at t.rows.room rows c.args.slot c.row_mut.ensures.placed t.host t.settings there.0.0 there.0.1 stands pool pool after are
          (kept_part c there.0.0 there.0.1 stands);
    }
