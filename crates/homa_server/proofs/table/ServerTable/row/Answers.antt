use Rattle.std.proofs.Common.{◌≡◌, ap, subst, ◌∙◌}
use Rattle.homa_plain.specs.declared.id.CallId.{CallId}
use Rattle.homa_plain.specs.declared.row.RowFacts.{RowFacts}
use Rattle.host_places.specs.Placed.{StandsAt}
use Rattle.homa_server.specs.Held.{HeldServer, IsKept}
use Rattle.homa_server.specs.Answers.{server_facts}
use Rattle.homa_server.specs.Table.{Servers}
use Rattle.homa_server.proofs.StandLaws.{found_spot}
use Rattle.homa_server.proofs.table.ServerTable.row.Goals as goal

pub returns-clause-facts : goal.returns-clause-facts
returns-clause-facts c =
    let t = c.self.inside in
    let told : ◌≡◌ {A = RowFacts} (record { id = c.in-Some.id; peer = c.in-Some.id.client; order = c.order.result; out = c.out.result })
    (server_facts c.in-Some.id c.in-Some.row.now) =
    λ i. record { id = c.in-Some.id; peer = c.in-Some.id.client; order = c.order.ensures.order i; out = c.out.ensures i } in
    subst (λ (v : Servers). (id : CallId) (r : HeldServer) → StandsAt v.rows id c.args.slot r → ◌≡◌ {A = RowFacts}
    (record { id = c.in-Some.id; peer = c.in-Some.id.client; order = c.order.result; out = c.out.result }) (server_facts id r)) c.self.view_is
    (λ id r stands. told ∙ ap (λ (x : CallId × HeldServer). server_facts x.0 x.1)
    (found_spot t.rows.room t.rows.rows c.args.slot c.get.ensures.placed (c.in-Some.id, c.in-Some.row.now) c.in-Some.ensures.row id r stands))

pub returns-clause-kept : goal.returns-clause-kept
returns-clause-kept c =
    let t = c.self.inside in
    subst (λ (v : Servers). (id : CallId) (r : HeldServer) → StandsAt v.rows id c.args.slot r → IsKept r.state) c.self.view_is
    (λ id r stands. subst (λ (x : CallId × HeldServer). IsKept x.1.state)
    (found_spot t.rows.room t.rows.rows c.args.slot c.get.ensures.placed (c.in-Some.id, c.in-Some.row.now) c.in-Some.ensures.row id r stands)
    c.order.ensures.kept)
