-- The places of hosts, of which each is full or empty, and the spares.
use Rattle.std.specs.Prelude.{ℕ, ◌-◌, Option, None, List, length, take, slice_get, slice_index_or}
use Rattle.homa_service.specs.declared.table.ServiceTable.{ServiceTable}

-- the places of the hosts, in the hosts' order
abbrev pub places : {S : Type 0} → ServiceTable S → List (Option S)
places table = table.places.items

-- the services that no host has yet
abbrev pub spares : {S : Type 0} → ServiceTable S → List S
spares table = table.spares.items

-- the service in the host's place, if there is such a place
abbrev pub place_of : {A : Type 0} → List (Option A) → ℕ → Option A
place_of all host = slice_index_or all host None

-- the last of some services, if there is one
abbrev pub last_of : {A : Type 0} → List A → Option A
last_of xs = slice_get xs (length xs - 1)

-- all services but the last
abbrev pub front_of : {A : Type 0} → List A → List A
front_of xs = take (length xs - 1) xs
