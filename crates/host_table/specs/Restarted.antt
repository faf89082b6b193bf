-- A host that restarts.
use Rattle.std.specs.Prelude.{◌≡◌, false, List, [], ◌∷◌, slice_set}
use Rattle.homa_plain.specs.declared.id.HostId.{HostId}
use Rattle.homa_plain.specs.declared.fault.WorldFault.{WorldFault}
use Rattle.homa_plain.specs.declared.fault.WorldFault.TheVariants as fault
use Rattle.homa_plain.specs.Entries.{is_memory}
use Rattle.homa_service.specs.Table.{last_of, front_of}
use Rattle.host_table.specs.declared.stage.Stage.{Stage}
use Rattle.host_table.specs.Staged.{Known, known_of, seats_of, spares_of}

-- there is one at least
abbrev pub IsAny : {A : Type 0} → List A → Type 0
IsAny [] = ⊥
IsAny (x ∷ xs) = Unit {0}

-- another host stands at the place, with the last spare box
pub record HasRestarted {S : Type 0} (id : HostId) (k : Known) (old new : Stage S) : Type 0 where
  pub some : IsAny (spares_of old)
  pub known : known_of new ≡ slice_set (known_of old) id.0 k
  pub seats : seats_of new ≡ slice_set (seats_of old) id.0 (last_of (spares_of old))
  pub spares : spares_of new ≡ front_of (spares_of old)

-- if not for memory, then because there is no spare box
abbrev pub HasNoSpare : {S : Type 0} → Stage S → WorldFault → Type 0
HasNoSpare old why = is_memory why ≡ false → (why ≡ fault.NoSpare) × (spares_of old ≡ [])
