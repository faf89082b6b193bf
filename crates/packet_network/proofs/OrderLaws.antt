-- What comes back in which order.
use Rattle.std.proofs.Common.{◌≡◌, ◌∷◌, ℕ, refl, sym, ap, subst, IsPermutation, Some}
use Rattle.std.specs.Prelude.{All}
use Rattle.network_parts.specs.Dues.{Calendar, IsInTurn}
use Rattle.network_parts.specs.declared.agenda.Due.{Due}
use Rattle.packet_network.specs.declared.event.NetworkEvent.{NetworkEvent}
use Rattle.packet_network.specs.declared.event.Reached.{Reached}
use Rattle.packet_network.specs.declared.event.Reached.TheVariants as reached
use Rattle.packet_network.specs.Agendas.{IsNext, IsNoTask, IsInOrder}

-- what the agenda gave was due next
pub is_next : (before after : Calendar NetworkEvent) (d : Due NetworkEvent) → IsPermutation before.dues (d ∷ after.dues)
    → All (IsInTurn d) after.dues → after.moment ≡ d.at → after.count ≡ before.count → IsNext d.what before after
is_next before after d due first now count =
    let same : (let e : Due NetworkEvent = record { at = after.moment; number = d.number; what = d.what } in e) ≡ d =
    ap (λ (n : ℕ). let e : Due NetworkEvent = record { at = n; number = d.number; what = d.what } in e) now in
    record {
      number = d.number;
      due = subst (λ (e : Due NetworkEvent). IsPermutation before.dues (e ∷ after.dues)) (sym same) due;
      first = subst (λ (e : Due NetworkEvent). All (IsInTurn e) after.dues) (sym same) first;
      count = count;
    }

-- nothing is said of what isn't a task
pub no_task : (r : Reached) (before after : Calendar NetworkEvent) → IsNoTask r → IsInOrder (Some r) before after
no_task (reached.Task task) before after none = elim none [ ]
no_task (reached.Card begun) before after none = tt
no_task (reached.Output begun) before after none = tt
no_task (reached.AtHost packet) before after none = tt
no_task reached.Nothing before after none = tt
