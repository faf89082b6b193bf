use Rattle.std.proofs.Common.{◌∙◌, sym, ap, arith, set, refl}
use Rattle.host_places.specs.Spots.{rows_of, spot_in}
use Rattle.host_places.proofs.SpotLaws.{spot_read, spot-is, spot_within, stands_in, free_not_of, place_of_spot, get-stands, spots-remove, rows-remove}
use Rattle.host_places.proofs.SpotLaws.{rows_placed}
use Rattle.host_places.proofs.table.Rows.remove.Goals as goal

pub index_mut-requires : goal.index_mut-requires
index_mut-requires g c =
    let spots = c.self.inside.spots in
    let at = stands_in c.self.inside.places spots.items c.self.invariant.0 c.args.place (rw (← c.self.view_is) at c.requires) in
    let within = spot_within c.self.inside.places spots.items c.self.invariant.0 at.0 at.1 c.args.place at.2 in
    omega (arith, spots.ok.0, within)

pub give-requires : goal.give-requires
give-requires g c =
    let spots = c.self.inside.spots.items in
    let at = stands_in c.self.inside.places spots c.self.invariant.0 c.args.place (rw (← c.self.view_is) at c.requires) in
    let within = spot_within c.self.inside.places spots c.self.invariant.0 at.0 at.1 c.args.place at.2 in
    let here = spot_read spots c.args.place c.index_mut.result.now within c.index_mut.ensures.value ∙ sym c.replace.ensures.value ∙ c.in-Of.is in
    rw (place_of_spot c.self.inside.places spots c.self.invariant.0 c.in-Of.id c.in-Of.row c.args.place here) refl

pub invariant_of-self : goal.invariant_of-self
invariant_of-self g c =
    let spots = c.self.inside.spots.items in
    let at = stands_in c.self.inside.places spots c.self.invariant.0 c.args.place (rw (← c.self.view_is) at c.requires) in
    let within = spot_within c.self.inside.places spots c.self.invariant.0 at.0 at.1 c.args.place at.2 in
    let here = spot_read spots c.args.place c.index_mut.result.now within c.index_mut.ensures.value ∙ sym c.replace.ensures.value ∙ c.in-Of.is in
    rw (c.give.ensures, c.replace.ensures.after) (
      spots-remove c.self.inside.places spots c.in-Of.id c.args.place c.in-Of.row c.self.invariant.0 here,
      c.self.invariant.1,
    )

pub unreachable-requires : goal.unreachable-requires
unreachable-requires g c =
    let spots = c.self.inside.spots.items in
    let at = stands_in c.self.inside.places spots c.self.invariant.0 c.args.place (rw (← c.self.view_is) at c.requires) in
    let within = spot_within c.self.inside.places spots c.self.invariant.0 at.0 at.1 c.args.place at.2 in
    let none = spot_read spots c.args.place c.index_mut.result.now within c.index_mut.ensures.value ∙ sym c.replace.ensures.value ∙ c.in-Free.is in
    free_not_of at.0 at.1 (sym none ∙ at.2)

pub returns-clause-row : goal.returns-clause-row
returns-clause-row g c =
    let spots = c.self.inside.spots.items in
    let at = stands_in c.self.inside.places spots c.self.invariant.0 c.args.place (rw (← c.self.view_is) at c.requires) in
    let within = spot_within c.self.inside.places spots c.self.invariant.0 at.0 at.1 c.args.place at.2 in
    let here = spot_read spots c.args.place c.index_mut.result.now within c.index_mut.ensures.value ∙ sym c.replace.ensures.value ∙ c.in-Of.is in
    rw (← c.self.view_is) (spot-is c.self.inside.places spots c.self.invariant.0 c.args.place ∙ ap spot_in here)

pub returns-clause-stood : goal.returns-clause-stood
returns-clause-stood g c =
    let spots = c.self.inside.spots.items in
    let at = stands_in c.self.inside.places spots c.self.invariant.0 c.args.place (rw (← c.self.view_is) at c.requires) in
    let within = spot_within c.self.inside.places spots c.self.invariant.0 at.0 at.1 c.args.place at.2 in
    let here = spot_read spots c.args.place c.index_mut.result.now within c.index_mut.ensures.value ∙ sym c.replace.ensures.value ∙ c.in-Of.is in
    rw (← c.self.view_is) (get-stands c.self.inside.places spots c.self.invariant.0 c.in-Of.id c.in-Of.row c.args.place here)

pub returns-clause-removed : goal.returns-clause-removed
returns-clause-removed g c =
    let spots = c.self.inside.spots.items in
    let at = stands_in c.self.inside.places spots c.self.invariant.0 c.args.place (rw (← c.self.view_is) at c.requires) in
    let within = spot_within c.self.inside.places spots c.self.invariant.0 at.0 at.1 c.args.place at.2 in
    let here = spot_read spots c.args.place c.index_mut.result.now within c.index_mut.ensures.value ∙ sym c.replace.ensures.value ∙ c.in-Of.is in
    let room = ap (λ t. t.room) c.give.ensures in
    let rows = ap (λ s. rows_of (set spots c.args.place s)) c.replace.ensures.after
    ∙ rows-remove c.self.inside.places spots c.in-Of.id c.args.place c.in-Of.row c.self.invariant.0 here in
    rw (← c.self.view_is) (λ i. record { room = room i; rows = rows i })

pub returns-clause-placed : goal.returns-clause-placed
returns-clause-placed g c = rw (← c.self.view_is) (rows_placed c.self.inside.places c.self.inside.spots.items c.self.invariant.0)
