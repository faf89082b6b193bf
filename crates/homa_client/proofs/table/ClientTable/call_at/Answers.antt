-- The call at the place is one of the table's.
use Rattle.std.proofs.Common.{◌∙◌, sym, ap}
use Rattle.std.specs.Option.{option_map}
use Rattle.host_places.proofs.PlacedLaws.{get-spot}
use Rattle.homa_client.proofs.table.ClientTable.call_at.Goals as goal

pub returns-clause-own : goal.returns-clause-own
returns-clause-own c = rw (← c.self.view_is) (c.self.invariant.own c.in-Some.id _
    (get-spot c.self.inside.rows.rows c.args.slot c.in-Some.id c.in-Some.field-0-1.now
    (sym c.get.ensures.row ∙ ap (option_map (λ s. (s.0, s.1.now))) c.in-Some.is)))
