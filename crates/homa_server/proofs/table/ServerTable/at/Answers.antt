use Rattle.std.proofs.Common.{◌≡◌, ap, subst}
use Rattle.homa_plain.specs.declared.id.CallId.{CallId}
use Rattle.host_places.specs.Placed.{StandsAt}
use Rattle.homa_server.specs.Held.{HeldServer}
use Rattle.homa_server.specs.Table.{Servers}
use Rattle.homa_server.proofs.StandLaws.{found_spot}
use Rattle.homa_server.proofs.table.ServerTable.at.Goals as goal

pub returns : goal.returns
returns c =
    let t = c.self.inside in
    subst (λ (v : Servers). (id : CallId) (r : HeldServer) → StandsAt v.rows id c.args.slot r → c.in-Some.row.now ≡ r) c.self.view_is
    (λ id r stands. ap (λ (x : CallId × HeldServer). x.1)
    (found_spot t.rows.room t.rows.rows c.args.slot c.get.ensures.placed (c.in-Some.field-0-0, c.in-Some.row.now) c.in-Some.ensures.row id r stands))
