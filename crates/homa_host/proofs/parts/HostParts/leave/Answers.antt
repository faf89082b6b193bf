-- The message that comes first is that of a row in one of the two tables.
use Rattle.std.proofs.Common.{◌≡◌, ◌-◌, Some, ap, sym, subst, ◌∙◌, arith}
use Rattle.std.specs.Prelude.{IsSome}
use Rattle.host_places.specs.Placed.{spot_at}
use Rattle.homa_host.proofs.SlotRows.{picked_client, picked_server}
use Rattle.homa_host.proofs.parts.HostParts.leave.Goals as goal

pub request_leaves-requires-clause-stands : goal.request_leaves-requires-clause-stands
request_leaves-requires-clause-stands c =
    let at = c.in-Client.ensures in
    subst (λ n. IsSome (spot_at c.args.self.now.clients.rows n)) at.1
    (picked_client c.args.self.now c.requires.kept c.args.slot c.requires.picked at.0)

pub request_leaves-requires-clause-picked : goal.request_leaves-requires-clause-picked
request_leaves-requires-clause-picked c = c.requires.picked ∙ ap Some c.in-Client.ensures.1

pub response_leaves-requires-clause-stands : goal.response_leaves-requires-clause-stands
response_leaves-requires-clause-stands c =
    let calls = c.args.self.now.control.settings.calls in
    let at = c.in-Server.ensures in
    let place : c.args.slot - calls ≡ c.in-Server.place = omega (arith, at) in
    subst (λ n. IsSome (spot_at c.args.self.now.servers.rows n)) place
    (picked_server c.args.self.now c.requires.kept c.args.slot c.requires.picked (omega (arith, at)))

pub response_leaves-requires-clause-picked : goal.response_leaves-requires-clause-picked
response_leaves-requires-clause-picked c = c.requires.picked ∙ ap Some (sym c.in-Server.ensures)
