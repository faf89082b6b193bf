-- How many packets stand where, as they come and go.
use Rattle.std.proofs.Common.{◌≡◌, ◌<◌, ◌+◌, ℕ, List, [], ◌∷◌, ◌++◌, length, get_or, set, ap, arith, length-append, IsPermutation}
use Rattle.std.proofs.lemmas.List.Sums.{sum_by-set}
use Rattle.std.proofs.lemmas.List.Sorted.{sum_by_pushed, sum_by_popped}
use Rattle.network_parts.specs.declared.port.Waiting.{Waiting}
use Rattle.network_parts.specs.declared.agenda.Due.{Due}
use Rattle.packet_network.specs.declared.event.NetworkEvent.{NetworkEvent}
use Rattle.packet_network.specs.declared.outlet.Outlet.{Outlet}
use Rattle.packet_network.specs.declared.packet.SimPacket.{SimPacket}
use Rattle.packet_network.specs.Standing.{in_port, in_agenda, carried}
use Rattle.packet_network.specs.Outlets.{waiting_at, waiting_at_all}

-- a packet that comes to a level is one more
pub one_enters : (qs : List (List (Waiting SimPacket))) (level : ℕ) (w : Waiting SimPacket) → level < length qs
    → in_port (set qs level (get_or qs level [] ++ w ∷ [])) ≡ in_port qs + 1
one_enters qs level w inside =
    omega (arith, sum_by-set length qs level (get_or qs level [] ++ w ∷ []) [] inside, length-append (get_or qs level []) (w ∷ []))

-- the first packet of a level that goes is one less
pub one_leaves : (qs : List (List (Waiting SimPacket))) (level : ℕ) (w : Waiting SimPacket) (rest : List (Waiting SimPacket)) → level < length qs
    → get_or qs level [] ≡ w ∷ rest → in_port (set qs level rest) + 1 ≡ in_port qs
one_leaves qs level w rest inside first = omega (arith, sum_by-set length qs level rest [] inside, ap length first)

-- one more is due
pub one_due : (due : Due NetworkEvent) (before after : List (Due NetworkEvent)) → IsPermutation (due ∷ before) after
    → in_agenda after ≡ carried due.what + in_agenda before
one_due due before after more = sum_by_pushed (λ (d : Due NetworkEvent). carried d.what) due before after more

-- one less is due
pub one_happens : (due : Due NetworkEvent) (before after : List (Due NetworkEvent)) → IsPermutation before (due ∷ after)
    → in_agenda after + carried due.what ≡ in_agenda before
one_happens due before after less = sum_by_popped (λ (d : Due NetworkEvent). carried d.what) due before after less

-- one of them holds as many more or less as all do
pub one_changes : (os : List Outlet) (i : ℕ) (old new : Outlet) → i < length os → old ≡ get_or os i old
    → waiting_at_all (set os i new) + waiting_at old ≡ waiting_at_all os + waiting_at new
one_changes os i old new inside is = omega (arith, sum_by-set waiting_at os i new old inside, ap waiting_at is)
