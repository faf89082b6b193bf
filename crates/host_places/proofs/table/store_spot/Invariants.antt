use Rattle.std.proofs.Common.{◌≡◌, ◌≤◌, ◌-◌, ◌++◌, max, replicate, vec_len, vec_capacity}
use Rattle.host_places.specs.declared.table.Spot.TheVariants.{Free}
use Rattle.host_places.proofs.table.store_spot.Given as goal

abbrev pub invariant-loop : goal.invariant-loop
invariant-loop g l = record {
  spots : l.spots.items ≡ l.initial.spots.items ++ replicate (l.counter - vec_len l.initial.spots) Free;
  len : vec_len l.spots ≡ l.counter;
  low : vec_len l.initial.spots ≤ l.counter;
  high : l.counter ≤ max (vec_len l.initial.spots) l.end;
  capacity : vec_capacity l.spots ≡ vec_capacity l.initial.spots;
}
