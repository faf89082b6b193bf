use Rattle.std.proofs.Common.{◌∙◌, sym, ap}
use Rattle.std.specs.Option.{option_map}
use Rattle.std.proofs.lemmas.List.{get_or_past}
use Rattle.host_places.specs.Spots.{spot_in}
use Rattle.host_places.specs.declared.table.Spot.TheVariants.{Free}
use Rattle.host_places.proofs.SpotLaws.{spot-is, rows_placed}
use Rattle.host_places.proofs.table.Rows.get.Goals as goal

pub returns-in_err-id-clause-row : goal.returns-in_err-id-clause-row
returns-in_err-id-clause-row g c =
    let spots = c.self.inside.spots.items in
    let past = rw c.deref.ensures.value at c.in_err-id.ensures.lookup.3 in
    rw (← c.self.view_is)
    (ap (option_map (λ s. (s.0, s.1.now))) c.from_residual.ensures
    ∙ sym (spot-is c.self.inside.places spots c.self.invariant.0 c.args.place ∙ ap spot_in (get_or_past spots c.args.place Free past)))

pub returns-in_err-id-clause-placed : goal.returns-in_err-id-clause-placed
returns-in_err-id-clause-placed g c = rw (← c.self.view_is) (rows_placed c.self.inside.places c.self.inside.spots.items c.self.invariant.0)

pub returns-in-Of-clause-row : goal.returns-in-Of-clause-row
returns-in-Of-clause-row g c =
    let spots = c.self.inside.spots.items in
    let read = rw c.deref.ensures.value at (c.in_ok-id.ensures.lookup.3.1 Free) in
    rw (← c.self.view_is) (sym (spot-is c.self.inside.places spots c.self.invariant.0 c.args.place ∙ ap spot_in (sym read ∙ c.in-Of.is)))

pub returns-in-Of-clause-placed : goal.returns-in-Of-clause-placed
returns-in-Of-clause-placed g c = rw (← c.self.view_is) (rows_placed c.self.inside.places c.self.inside.spots.items c.self.invariant.0)

pub returns-in-Free-clause-row : goal.returns-in-Free-clause-row
returns-in-Free-clause-row g c =
    let spots = c.self.inside.spots.items in
    let read = rw c.deref.ensures.value at (c.in_ok-id.ensures.lookup.3.1 Free) in
    rw (← c.self.view_is) (sym (spot-is c.self.inside.places spots c.self.invariant.0 c.args.place ∙ ap spot_in (sym read ∙ c.in-Free.is)))

pub returns-in-Free-clause-placed : goal.returns-in-Free-clause-placed
returns-in-Free-clause-placed g c = rw (← c.self.view_is) (rows_placed c.self.inside.places c.self.inside.spots.items c.self.invariant.0)
