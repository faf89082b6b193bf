-- The message that arrives in the row of a slot.
use Rattle.std.proofs.Common.{◌≡◌, Option, Some, sym, subst, ◌∙◌}
use Rattle.std.specs.Prelude.{IsSomeAnd}
use Rattle.homa_plain.specs.Sending.{Arriving}
use Rattle.msg_pool.specs.Pool.{Pool}
use Rattle.homa_in.specs.Part.{Part}
use Rattle.homa_host.specs.Granting.{ArrivesAt, IsPartOf}
use Rattle.homa_host.proofs.ClientGrants.{ClientArrives, client_arrives}
use Rattle.homa_host.proofs.ServerGrants.{ServerArrives, server_arrives}
use Rattle.homa_host.proofs.parts.HostParts.incoming.Goals as goal
use Rattle.homa_host.proofs.parts.HostParts.incoming.Goals.{In-Client, In-Server}

-- where there is this part it is that of the message
part_of : {pool : Pool} {a : Arriving} (o : Option Part) (p : Part) → o ≡ Some p → IsPartOf pool a p → IsSomeAnd o (IsPartOf pool a)
part_of {pool} {a} o p e is = subst (λ (o : Option Part). IsSomeAnd o (IsPartOf pool a)) (sym e) is

-- the row of a message that arrives at the slot
at_client : (c : In-Client) (a : Arriving) → ArrivesAt c.args.self.now c.args.slot a → ClientArrives c.args.self.now c.in-Client.place a
at_client c a is =
    let at = c.in-Client.ensures in
    subst (λ n. ClientArrives c.args.self.now n a) at.1 (client_arrives c.args.self.now c.requires.kept c.args.slot at.0 a is)

at_server : (c : In-Server) (a : Arriving) → ArrivesAt c.args.self.now c.args.slot a → ServerArrives c.args.self.now c.in-Server.place a
at_server c = server_arrives c.args.self.now c.requires.kept c.args.slot c.in-Server.place c.in-Server.ensures

pub incoming-requires : goal.incoming-requires
incoming-requires c =
    let a = c.requires.arrives in
    (at_client (goal.at.incoming-requires c).In-Client a.0 a.1).spot

pub incoming-requires-in-Server : goal.incoming-requires-in-Server
incoming-requires-in-Server c =
    let a = c.requires.arrives in
    (at_server (goal.at.incoming-requires-in-Server c).In-Server a.0 a.1).spot

pub returns-in-Client : goal.returns-in-Client
returns-in-Client c = λ a is.
    let x = at_client (goal.at.returns-in-Client c).In-Client a is in
    part_of _ x.part (c.incoming.ensures x.id x.row x.stands ∙ x.has) x.is

pub returns-in-Server : goal.returns-in-Server
returns-in-Server c = λ a is.
    let x = at_server (goal.at.returns-in-Server c).In-Server a is in
    part_of _ x.part (c.incoming-in-Server.ensures x.id x.row x.stands ∙ x.has) x.is
