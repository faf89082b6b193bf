-- A map with another value of each key.
use Rattle.std.specs.Prelude.{map, refl}
use Rattle.std.specs.declared.cmp.Ordering.{Ordering}
use Rattle.plain_sets.specs.Maps.{Map, checked, empty}

-- the map in which each key that has a value x has f x
unfoldable pub mapped : {K X Y : Type 0} {R : K → K → Ordering} → (X → Y) → Map R X → Map R Y
mapped f m = checked (map (λ e. (e.0, f e.1)) m.list) _ refl empty
