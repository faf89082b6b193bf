use Rattle.std.proofs.Common.{◌∙◌, sym, ℕ, Option, Some, None, IsSome, IfSome, IfNone, ◌≡◌}
use Rattle.plain_sets.specs.Maps.{get}
use Rattle.host_places.specs.Placed.{spot_at}
use Rattle.host_places.specs.Spots.{rows_of}
use Rattle.host_places.proofs.SpotLaws.{place-is, stands_at_place, no_row, rows_placed}
use Rattle.host_places.proofs.table.Rows.find.Goals as goal

pub returns-clause-place : goal.returns-clause-place
returns-clause-place g c = rw (← c.self.view_is) (c.find.ensures ∙ sym (place-is c.self.inside.places c.self.inside.spots.items c.self.invariant.0 c.args.id))

pub returns-clause-stands : goal.returns-clause-stands
returns-clause-stands g c = rw (← c.self.view_is) (by_place c.find.result (sym c.find.ensures)) where
  by_place : (r : Option ℕ) → get c.self.inside.places.at c.args.id ≡ r → IfSome r (λ place. IsSome (spot_at (rows_of c.self.inside.spots.items) place))
  by_place None e = tt
  by_place (Some place) e = stands_at_place c.self.inside.places c.self.inside.spots.items c.self.invariant.0 c.args.id place e

pub returns-clause-absent : goal.returns-clause-absent
returns-clause-absent g c = rw (← c.self.view_is) (by_place c.find.result (sym c.find.ensures)) where
  by_place : (r : Option ℕ) → get c.self.inside.places.at c.args.id ≡ r → IfNone r (get (rows_of c.self.inside.spots.items) c.args.id ≡ None)
  by_place None e = no_row c.self.inside.places c.self.inside.spots.items c.self.invariant.0 c.args.id e
  by_place (Some place) e = tt

pub returns-clause-placed : goal.returns-clause-placed
returns-clause-placed g c = rw (← c.self.view_is) (rows_placed c.self.inside.places c.self.inside.spots.items c.self.invariant.0)
