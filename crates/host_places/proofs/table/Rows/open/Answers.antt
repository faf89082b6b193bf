use Rattle.std.proofs.Common.{ap}
use Rattle.host_places.proofs.SpotLaws.{rows-none, spots-none}
use Rattle.host_places.proofs.table.Rows.open.Goals as goal

pub invariant_of-result : goal.invariant_of-result
invariant_of-result g c =
    (spots-none _ _ c.args.room c.in_ok-places.ensures c.in_ok-spots.ensures.items, rw c.in_ok-places.ensures c.in_ok-spots.ensures.capacity)

pub returns : goal.returns
returns g c =
    let room = ap (λ t. t.room) c.in_ok-places.ensures in
    let rows = rows-none _ c.in_ok-spots.ensures.items in
    λ i. record { room = room i; rows = rows i }
