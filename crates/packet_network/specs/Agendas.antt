-- What is due in a network.
use Rattle.std.specs.Prelude.{◌≡◌, ◌+◌, ℕ, [], ◌∷◌, max, All, Option, None, Some, IsPermutation}
use Rattle.network_parts.specs.Dues.{Calendar, IsInTurn}
use Rattle.network_parts.specs.declared.agenda.Due.{Due}
use Rattle.packet_network.specs.declared.event.Task.{Task}
use Rattle.packet_network.specs.declared.event.NetworkEvent.{NetworkEvent}
use Rattle.packet_network.specs.declared.event.NetworkEvent.TheVariants as event
use Rattle.packet_network.specs.declared.event.Reached.{Reached}
use Rattle.packet_network.specs.declared.event.Reached.TheVariants as reached

-- nothing is due, at moment 0
abbrev pub nothing_due : Calendar NetworkEvent
nothing_due = record { dues = []; moment = 0; count = 0 }

-- A task is due at a moment, or now if that is over, and comes behind all that is due at the same moment.
pub record IsEntered (at : ℕ) (task : Task) (before after : Calendar NetworkEvent) : Type 0 where
  pub due : IsPermutation (record { at = max at before.moment; number = before.count; what = event.Task task } ∷ before.dues) after.dues
  pub moment : after.moment ≡ before.moment
  pub count : after.count ≡ before.count + 1

-- This was due now, no longer is, and nothing that is due comes before it.
pub record IsNext (what : NetworkEvent) (before after : Calendar NetworkEvent) : Type 0 where
  pub number : ℕ
  pub due : IsPermutation before.dues (record { at = after.moment; number = number; what = what } ∷ after.dues)
  pub first : All (IsInTurn (record { at = after.moment; number = number; what = what })) after.dues
  pub count : after.count ≡ before.count

-- it isn't a task
abbrev pub IsNoTask : Reached → Type 0
IsNoTask (reached.Task task) = ⊥
IsNoTask (reached.Card begun) = Unit {0}
IsNoTask (reached.Output begun) = Unit {0}
IsNoTask (reached.AtHost packet) = Unit {0}
IsNoTask reached.Nothing = Unit {0}

-- If a task came back it was due next, and if nothing did nothing was due.
abbrev pub IsInOrder : Option Reached → (before after : Calendar NetworkEvent) → Type 0
IsInOrder None before after = before.dues ≡ []
IsInOrder (Some (reached.Task task)) before after = IsNext (event.Task task) before after
IsInOrder (Some (reached.Card begun)) before after = Unit {0}
IsInOrder (Some (reached.Output begun)) before after = Unit {0}
IsInOrder (Some (reached.AtHost packet)) before after = Unit {0}
IsInOrder (Some reached.Nothing) before after = Unit {0}
