-- Where the row of a slot stands.
use Rattle.std.specs.Prelude.{◌≡◌, ◌<◌, ◌+◌, ℕ}
use Rattle.homa_host.specs.declared.parts.Place.{Place}
use Rattle.homa_host.specs.declared.parts.Place.TheVariants.{Client, Server}

-- the slots of a host's own calls are their places; those of the calls that it serves follow
abbrev pub IsPlaceOf : ℕ → ℕ → Place → Type 0
IsPlaceOf calls slot (Client place) = (slot < calls) × (slot ≡ place)
IsPlaceOf calls slot (Server place) = calls + place ≡ slot
