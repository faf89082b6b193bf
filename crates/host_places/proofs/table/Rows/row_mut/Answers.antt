use Rattle.std.proofs.Common.{◌∙◌, sym, ap, arith, refl}
use Rattle.std.specs.Option.{option_map}
use Rattle.host_places.specs.Spots.{spot_in}
use Rattle.host_places.proofs.SpotLaws.{spot_read, spot-is, spot_within, stands_in, row-in_spot, rows_placed, spots-set, rows-set}
use Rattle.host_places.proofs.table.Rows.row_mut.Goals as goal

pub index_mut-requires : goal.index_mut-requires
index_mut-requires g c =
    let spots = c.self.inside.spots in
    let at = stands_in c.self.inside.places spots.items c.self.invariant.0 c.args.place (rw (← c.self.view_is) at c.requires) in
    let within = spot_within c.self.inside.places spots.items c.self.invariant.0 at.0 at.1 c.args.place at.2 in
    omega (arith, spots.ok.0, within)

pub row_mut-requires : goal.row_mut-requires
row_mut-requires g c =
    let spots = c.self.inside.spots.items in
    let at = stands_in c.self.inside.places spots c.self.invariant.0 c.args.place (rw (← c.self.view_is) at c.requires) in
    let within = spot_within c.self.inside.places spots c.self.invariant.0 at.0 at.1 c.args.place at.2 in
    rw (sym (spot_read spots c.args.place c.index_mut.result.now within c.index_mut.ensures.value) ∙ at.2) refl

pub invariant_of-self-lent : goal.invariant_of-self-lent
invariant_of-self-lent g c w =
    let spots = c.self.inside.spots.items in
    let at = stands_in c.self.inside.places spots c.self.invariant.0 c.args.place (rw (← c.self.view_is) at c.requires) in
    let within = spot_within c.self.inside.places spots c.self.invariant.0 at.0 at.1 c.args.place at.2 in
    rw (sym (spot_read spots c.args.place c.index_mut.result.now within c.index_mut.ensures.value) ∙ at.2)
    (spots-set c.self.inside.places spots at.0 c.args.place at.1 w c.self.invariant.0 at.2, c.self.invariant.1)

pub returns : goal.returns
returns g c =
    let spots = c.self.inside.spots.items in
    let at = stands_in c.self.inside.places spots c.self.invariant.0 c.args.place (rw (← c.self.view_is) at c.requires) in
    let within = spot_within c.self.inside.places spots c.self.invariant.0 at.0 at.1 c.args.place at.2 in
    let here = spot_read spots c.args.place c.index_mut.result.now within c.index_mut.ensures.value in (
      (
        refl,
        λ w. (rw (← c.self.view_is, sym here ∙ at.2)
            (λ i. record { room = c.self.inside.places.room; rows = rows-set c.self.inside.places spots at.0 c.args.place at.1 c.self.invariant.0 at.2 w i })),
      ),
      record {
        writes_back = tt;
        row = rw (← c.self.view_is) (ap (option_map (λ s. s.1)) (spot-is c.self.inside.places spots c.self.invariant.0 c.args.place ∙ ap spot_in here)
            ∙ row-in_spot c.index_mut.result.now ∙ c.row_mut.ensures.row);
        placed = rw (← c.self.view_is) (rows_placed c.self.inside.places spots c.self.invariant.0);
      },
    )
