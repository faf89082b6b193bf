use Rattle.std.proofs.Common.{◌∙◌, ◌<◌, ◌≤◌, sym, ap, arith, get_or, set, length}
use Rattle.plain_sets.specs.Maps.{insert}
use Rattle.host_places.specs.Spots.{rows_of}
use Rattle.host_places.proofs.SpotLaws.{spot_read, free_not_of, free-is, free_place, len-is, no_place, more-at, stored, spots-insert, rows-insert, rows-more}
use Rattle.host_places.specs.declared.table.Spot.TheVariants.{Free}
use Rattle.host_places.proofs.table.Rows.insert.Goals as goal

pub take-place-requires-clause-absent : goal.take-place-requires-clause-absent
take-place-requires-clause-absent g c =
    no_place c.self.inside.places c.self.inside.spots.items c.self.invariant.0 c.args.id (rw (← c.self.view_is) at c.requires.absent)

pub take-place-requires-clause-room : goal.take-place-requires-clause-room
take-place-requires-clause-room g c =
    let room = rw (← c.self.view_is) at c.requires.room in
    omega (arith, room, len-is c.self.inside.places c.self.inside.spots.items c.self.invariant.0)

pub store_spot-requires : goal.store_spot-requires
store_spot-requires g c = omega (arith, c.take-place.ensures.within, c.self.invariant.1)

pub index_mut-requires : goal.index_mut-requires
index_mut-requires g c = omega (arith, c.store_spot.ensures.stored)

pub unreachable-requires : goal.unreachable-requires
unreachable-requires g c =
    let spots = c.self.inside.spots.items in
    let more = c.store_spot.new.spots in
    let place = c.take-place.result in
    let within : place < length more.items = omega (arith, c.store_spot.ensures.stored, more.ok.0) in
    let free = ap (λ s. get_or s place Free) c.store_spot.ensures.spots ∙ more-at spots _ place
    ∙ free-is c.self.inside.places spots c.self.invariant.0 place c.take-place.ensures.free in
    free_not_of c.in-Of.field-0 c.in-Of.field-1
    (sym free ∙ spot_read more.items place c.index_mut.result.now within c.index_mut.ensures.value ∙ sym c.replace-free.ensures.value ∙ c.in-Of.is)

pub invariant_of-self : goal.invariant_of-self
invariant_of-self g c =
    let places = c.self.inside.places in
    let spots = c.self.inside.spots.items in
    let more = c.store_spot.new.spots in
    let none = no_place places spots c.self.invariant.0 c.args.id (rw (← c.self.view_is) at c.requires.absent) in
    let few : length more.items ≤ places.room =
    omega (arith, c.store_spot.ensures.len, more.ok.0, c.self.inside.spots.ok.0, c.self.invariant.0.few, c.take-place.ensures.within) in
    let are = stored places spots more.items _ c.store_spot.ensures.spots c.self.invariant.0 few in
    let within : c.take-place.result < length more.items = omega (arith, c.store_spot.ensures.stored, more.ok.0) in
    rw (c.take-place.ensures.taken, c.replace-free.ensures.after) (
      spots-insert places more.items c.args.id c.take-place.result c.args.row are none within c.take-place.ensures.free,
      omega (arith, c.self.invariant.1, c.store_spot.ensures.capacity),
    )

pub returns-clause-inserted : goal.returns-clause-inserted
returns-clause-inserted g c =
    let places = c.self.inside.places in
    let spots = c.self.inside.spots.items in
    let more = c.store_spot.new.spots in
    let none = no_place places spots c.self.invariant.0 c.args.id (rw (← c.self.view_is) at c.requires.absent) in
    let few : length more.items ≤ places.room =
    omega (arith, c.store_spot.ensures.len, more.ok.0, c.self.inside.spots.ok.0, c.self.invariant.0.few, c.take-place.ensures.within) in
    let are = stored places spots more.items _ c.store_spot.ensures.spots c.self.invariant.0 few in
    let within : c.take-place.result < length more.items = omega (arith, c.store_spot.ensures.stored, more.ok.0) in
    let room = ap (λ t. t.room) c.take-place.ensures.taken in
    let rows = ap (λ s. rows_of (set more.items c.take-place.result s)) c.replace-free.ensures.after
    ∙ rows-insert places more.items c.args.id c.take-place.result c.args.row are none within c.take-place.ensures.free
    ∙ ap (λ rs. insert rs c.args.id (record { place = c.take-place.result; row = c.args.row })) (ap rows_of c.store_spot.ensures.spots ∙ rows-more spots _) in
    rw (← c.self.view_is) (λ i. record { room = room i; rows = rows i })

pub returns-clause-free : goal.returns-clause-free
returns-clause-free g c =
    rw (← c.self.view_is) (free_place c.self.inside.places c.self.inside.spots.items c.self.invariant.0 c.take-place.result c.take-place.ensures.free)
