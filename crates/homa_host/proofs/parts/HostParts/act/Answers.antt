-- The row of a slot stands in one of the two tables.
use Rattle.std.proofs.Common.{subst, sym}
use Rattle.std.specs.Prelude.{IsSome}
use Rattle.host_places.specs.Placed.{StandsAt, spot_at}
use Rattle.homa_client.specs.AtTable.{IsDueAt}
use Rattle.homa_host.proofs.Due.{client_spot_there, client_due_there, client_first, server_spot_there, server_due_there, server_first}
use Rattle.homa_host.proofs.parts.HostParts.act.Goals as goal

pub client_acts-requires-clause-stands : goal.client_acts-requires-clause-stands
client_acts-requires-clause-stands c =
    let at = c.in-Client.ensures in
    subst (λ n. IsSome (spot_at c.args.self.now.clients.rows n)) at.1
    (client_spot_there c.args.self.now c.requires.kept c.args.slot c.requires.due at.0)

pub client_acts-requires-clause-due : goal.client_acts-requires-clause-due
client_acts-requires-clause-due c =
    let h = c.args.self.now in
    let at = c.in-Client.ensures in
    subst (IsDueAt h.control.settings h.control.last h.pool h.clients.rows) at.1
    (client_due_there h c.requires.kept c.args.slot c.requires.due at.0)

pub server_acts-requires-clause-stands : goal.server_acts-requires-clause-stands
server_acts-requires-clause-stands c =
    server_spot_there c.args.self.now c.requires.kept c.args.slot c.requires.due c.in-Server.place (sym c.in-Server.ensures)

pub server_acts-requires-clause-due : goal.server_acts-requires-clause-due
server_acts-requires-clause-due c =
    server_due_there c.args.self.now c.requires.kept c.args.slot c.requires.due c.in-Server.place (sym c.in-Server.ensures)

pub returns-in-Client-clause-step : goal.returns-in-Client-clause-step
returns-in-Client-clause-step c =
    let h = c.args.self.now in
    let at = c.in-Client.ensures in
    client_first h c.requires.kept c.args.slot c.requires.due at.0 c.client_acts.new.self c.args.out.now c.client_acts.new.out
    (λ id r w stands amid. c.client_acts.ensures.step id r w (subst (λ n. StandsAt h.clients.rows id n r) at.1 stands) amid)

pub returns-in-Server-clause-step : goal.returns-in-Server-clause-step
returns-in-Server-clause-step c =
    server_first c.args.self.now c.requires.kept c.args.slot c.requires.due c.in-Server.place (sym c.in-Server.ensures) c.server_acts.new.self
    c.args.out.now c.server_acts.new.out c.server_acts.ensures.step
