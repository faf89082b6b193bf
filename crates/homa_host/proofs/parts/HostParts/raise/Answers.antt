-- The row of a slot notes that its message is granted up to an end.
use Rattle.std.proofs.Common.{◌≡◌, sym, ap, subst}
use Rattle.homa_plain.specs.declared.id.HostId.{HostId}
use Rattle.homa_plain.specs.declared.packet.Role.TheVariants.{Client, Server}
use Rattle.homa_plain.specs.declared.row.RowFacts.{RowFacts}
use Rattle.homa_plain.specs.declared.settings.Settings.{Settings}
use Rattle.homa_plain.specs.Sending.{Arriving}
use Rattle.homa_host.specs.Granting.{ArrivesAt, IsRaised}
use Rattle.homa_host.specs.declared.parts.HostParts.{HostParts}
use Rattle.homa_host.proofs.ClientGrants as client
use Rattle.homa_host.proofs.ClientGrants.{ClientArrives, client_arrives, client_may}
use Rattle.homa_host.proofs.ServerGrants as server
use Rattle.homa_host.proofs.ServerGrants.{ServerArrives, server_arrives, server_may}
use Rattle.homa_host.proofs.parts.HostParts.raise.Goals as goal
use Rattle.homa_host.proofs.parts.HostParts.raise.Goals.{In-Client, In-Server}

-- ---- at a client

-- the row of a message that arrives at the slot, and that of the one that is given
at_client : (c : In-Client) (a : Arriving) → ArrivesAt c.args.self.now c.args.slot a → ClientArrives c.args.self.now c.in-Client.place a
at_client c a is =
    let at = c.in-Client.ensures in
    subst (λ n. ClientArrives c.args.self.now n a) at.1 (client_arrives c.args.self.now c.requires.kept c.args.slot at.0 a is)

given_client : (c : In-Client) → ClientArrives c.args.self.now c.in-Client.place c.requires.arrives.0
given_client c = at_client c c.requires.arrives.0 c.requires.arrives.1

pub row-facts-requires : goal.row-facts-requires
row-facts-requires c = (given_client (goal.at.row-facts-requires c).In-Client).spot

pub granted-requires-clause-stands : goal.granted-requires-clause-stands
granted-requires-clause-stands c = (given_client (goal.at.granted-requires-clause-stands c).In-Client).spot

pub granted-requires-clause-part : goal.granted-requires-clause-part
granted-requires-clause-part c =
    let a = c.requires.arrives in
    client_may c.args.self.now c.requires.kept c.in-Client.place a.0 (given_client (goal.at.granted-requires-clause-part c).In-Client) c.args.offset a.2 a.3

pub client_goes_on-requires : goal.client_goes_on-requires
client_goes_on-requires c =
    let x = given_client (goal.at.client_goes_on-requires c).In-Client in
    client.granted_follows c.args.self.now c.requires.kept c.in-Client.place _ x c.args.offset c.last-now.result c.last-now.ensures c.granted.new.self
    c.granted.ensures

pub returns-in-Client-clause-kept : goal.returns-in-Client-clause-kept
returns-in-Client-clause-kept c =
    let x = given_client (goal.at.returns-in-Client-clause-kept c).In-Client in
    client.granted_kept c.args.self.now c.requires.kept c.in-Client.place _ x c.args.offset c.last-now.result c.last-now.ensures c.granted.new.self
    c.granted.ensures c.client_goes_on.new.books c.client_goes_on.ensures

pub returns-in-Client-clause-raised : goal.returns-in-Client-clause-raised
returns-in-Client-clause-raised c = λ a is.
    let h = c.args.self.now in
    let new : HostParts = record h { clients = c.granted.new.self; books = c.client_goes_on.new.books } in
    let x = at_client (goal.at.returns-in-Client-clause-raised c).In-Client a is in
    subst (λ n. IsRaised h new n a c.args.offset Client c.row-facts.result.id c.row-facts.result.peer) (sym c.in-Client.ensures.1)
    (subst (λ (f : RowFacts). IsRaised h new c.in-Client.place a c.args.offset Client f.id f.peer) (sym (c.row-facts.ensures.facts x.id x.row x.stands))
    (client.raised h c.requires.kept c.in-Client.place a x c.args.offset c.last-now.result c.last-now.ensures c.granted.new.self c.granted.ensures
    c.client_goes_on.new.books c.client_goes_on.ensures))

-- ---- at a server

calls : (c : In-Server) → c.settings.result.now.calls ≡ c.args.self.now.control.settings.calls
calls c = ap (λ (s : Settings). s.calls) c.settings.ensures.settings

-- the row of a message that arrives at the slot, and that of the one that is given
at_server : (c : In-Server) (a : Arriving) → ArrivesAt c.args.self.now c.args.slot a → ServerArrives c.args.self.now c.in-Server.place a
at_server c = server_arrives c.args.self.now c.requires.kept c.args.slot c.in-Server.place c.in-Server.ensures

given_server : (c : In-Server) → ServerArrives c.args.self.now c.in-Server.place c.requires.arrives.0
given_server c = at_server c c.requires.arrives.0 c.requires.arrives.1

pub row-facts-requires-in-Server : goal.row-facts-requires-in-Server
row-facts-requires-in-Server c = (given_server (goal.at.row-facts-requires-in-Server c).In-Server).spot

pub granted-requires-in-Server-clause-stands : goal.granted-requires-in-Server-clause-stands
granted-requires-in-Server-clause-stands c = (given_server (goal.at.granted-requires-in-Server-clause-stands c).In-Server).spot

pub granted-requires-in-Server-clause-up : goal.granted-requires-in-Server-clause-up
granted-requires-in-Server-clause-up c =
    let at = (goal.at.granted-requires-in-Server-clause-up c).In-Server in
    let a = c.requires.arrives in
    server_may c.args.self.now c.requires.kept c.args.slot at.in-Server.place at.in-Server.ensures a.0 (given_server at) c.args.offset a.2 a.3

pub server_goes_on-requires : goal.server_goes_on-requires
server_goes_on-requires c =
    let at = (goal.at.server_goes_on-requires c).In-Server in
    server.granted_follows c.args.self.now c.requires.kept c.args.slot at.in-Server.place at.in-Server.ensures _
    (given_server at) c.args.offset c.last-now.result
    c.last-now.ensures c.granted-in-Server.new.self c.granted-in-Server.ensures
    c.settings.result.now.calls (calls at)

pub returns-in-Server-clause-kept : goal.returns-in-Server-clause-kept
returns-in-Server-clause-kept c =
    let at = (goal.at.returns-in-Server-clause-kept c).In-Server in
    server.granted_kept c.args.self.now c.requires.kept c.args.slot at.in-Server.place at.in-Server.ensures _ (given_server at) c.args.offset c.last-now.result
    c.last-now.ensures c.granted-in-Server.new.self c.granted-in-Server.ensures
    c.settings.result.now.calls (calls at) c.server_goes_on.new.books c.server_goes_on.ensures

pub returns-in-Server-clause-raised : goal.returns-in-Server-clause-raised
returns-in-Server-clause-raised c = λ a is.
    let h = c.args.self.now in
    let at = (goal.at.returns-in-Server-clause-raised c).In-Server in
    let x = at_server at a is in
    subst (λ (f : RowFacts × HostId). IsRaised h (record h { servers = c.granted-in-Server.new.self; books = c.server_goes_on.new.books })
    c.args.slot a c.args.offset Server f.0.id f.1)
    (λ i. (sym (c.row-facts-in-Server.ensures.facts x.id x.row x.stands) i, sym c.id.ensures i))
    (server.raised h c.requires.kept c.args.slot at.in-Server.place at.in-Server.ensures a x c.args.offset c.last-now.result c.last-now.ensures
    c.granted-in-Server.new.self c.granted-in-Server.ensures
    c.settings.result.now.calls (calls at) c.server_goes_on.new.books c.server_goes_on.ensures)
