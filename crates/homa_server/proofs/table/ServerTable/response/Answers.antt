use Rattle.std.proofs.Common.{◌≡◌, Some, sym, ap, ◌∙◌}
use Rattle.std.specs.Option.{option_and_then}
use Rattle.host_places.specs.Placed.{Placed}
use Rattle.homa_server.specs.Held.{HeldServer, state_response}
use Rattle.homa_server.specs.Table.{Servers, slot_at}
use Rattle.homa_server.proofs.StandLaws.{stands-slot}
use Rattle.homa_server.proofs.table.ServerTable.response.Goals as goal

pub returns : goal.returns
returns c =
    let here : Some c.in_ok-slot.slot ≡ slot_at c.args.self.now.rows c.args.id =
    c.in_ok-slot.ensures.place ∙ ap (λ (v : Servers). slot_at v.rows c.args.id) c.self.view_is in
    let there = stands-slot c.args.self.now.rows c.args.id c.in_ok-slot.slot here in
    c.response.ensures ∙ ap (λ (r : HeldServer). state_response r.state) (c.at.ensures c.args.id there.0 there.1)
    ∙ sym (ap (option_and_then (λ (x : Placed HeldServer). state_response x.row.state)) there.1)
