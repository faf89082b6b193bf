-- What is on its way is of packets that were sent.
use Rattle.std.proofs.Common.{◌≡◌, ℕ, suc, ◌≤◌, Some, List, [], ◌∷◌, ◌++◌, length, refl, sym, ap, ◌∙◌, subst, arith, append_assoc, length-append}
use Rattle.std.specs.Prelude.{slice_get, nat_lt}
use Rattle.std.specs.List.{AllByRecursion}
use Rattle.std.proofs.lemmas.Bool.{cond_both}
use Rattle.homa_plain.specs.declared.settings.Settings.{Settings}
use Rattle.homa_plain.specs.Packets.{receiver, datagram}
use Rattle.homa_plain.specs.World.{SentPacket}
use Rattle.generated_runs.specs.Fabric.{Queued, Destination, Fabric, idle, destination, with_destination, level_of, with_level, sent, most_queued, round_bytes}
use Rattle.generated_runs.specs.Rounds.{all_sent}
use Rattle.step_laws.proofs.Places.{all-append}
use Rattle.step_moves.proofs.Hosts.{length-set}
use Rattle.generated_laws.proofs.Listed.{set_at, replicated, get_front, get_seam}

-- one of these packets, which has a byte at least
pub record IsKnown (packets : List SentPacket) (q : Queued) : Type 0 where
  pub packet : SentPacket
  pub at : slice_get packets q.number ≡ Some packet
  pub tick : packet.tick ≡ q.tick
  pub some : 1 ≤ q.size

-- what is on its way to a host, and what it may be handed at most
pub record IsWay (packets : List SentPacket) (d : Destination) : Type 0 where
  pub levels : (level : ℕ) → AllByRecursion (IsKnown packets) (level_of d level)
  pub budget : d.budget ≤ round_bytes

abbrev pub AreWays : List SentPacket → Fabric → Type 0
AreWays packets f = (i : ℕ) → IsWay packets (destination f i)

known_more : (packets more : List SentPacket) (q : Queued) → IsKnown packets q → IsKnown (packets ++ more) q
known_more packets more q k = record { packet = k.packet; at = get_front packets more q.number k.packet k.at; tick = k.tick; some = k.some }

all_more : (packets more : List SentPacket) (qs : List Queued) → AllByRecursion (IsKnown packets) qs → AllByRecursion (IsKnown (packets ++ more)) qs
all_more packets more [] all = tt
all_more packets more (q ∷ qs) all = (known_more packets more q all.0, all_more packets more qs all.1)

pub way_more : (packets more : List SentPacket) (d : Destination) → IsWay packets d → IsWay (packets ++ more) d
way_more packets more d k = record { levels = λ level. all_more packets more (level_of d level) (k.levels level); budget = k.budget }

-- another queue at a level
pub with_queue : (packets : List SentPacket) (d : Destination) (level : ℕ) (queue : List Queued) → IsWay packets d
    → AllByRecursion (IsKnown packets) queue → IsWay packets (with_level d level queue)
with_queue packets d level queue k all = record {
  levels = λ l. set_at (AllByRecursion (IsKnown packets)) d.levels level l queue [] (λ _. all) (k.levels l);
  budget = k.budget;
}

-- nothing is on its way
pub idle_way : (packets : List SentPacket) → IsWay packets idle
idle_way packets = record {
  levels = λ level. subst (AllByRecursion (IsKnown packets)) (sym (replicated 8 level [])) tt;
  budget = omega arith;
}

-- ---- packets that are sent

-- what was to be handed over, and how much, stays for each host
pub record HasEntered (packets : List SentPacket) (old new : Fabric) : Type 0 where
  pub ways : AreWays packets new
  pub again : (i : ℕ) → (destination new i).again ≡ (destination old i).again
  pub budget : (i : ℕ) → (destination new i).budget ≡ (destination old i).budget
  pub length : length new.destinations ≡ length old.destinations

entered_none : (packets : List SentPacket) (f : Fabric) → AreWays packets f → HasEntered packets f f
entered_none packets f ways = record { ways = ways; again = λ i. refl; budget = λ i. refl; length = refl }

entered_on : (packets : List SentPacket) (a b c : Fabric) → HasEntered packets a b → HasEntered packets b c → HasEntered packets a c
entered_on packets a b c p q = record {
  ways = q.ways;
  again = λ i. q.again i ∙ p.again i;
  budget = λ i. q.budget i ∙ p.budget i;
  length = q.length ∙ p.length;
}

entered_set : (packets : List SentPacket) (f : Fabric) (to : ℕ) (d : Destination) → AreWays packets f → IsWay packets d
    → d.again ≡ (destination f to).again → d.budget ≡ (destination f to).budget → HasEntered packets f (with_destination f to d)
entered_set packets f to d ways way again budget = record {
  ways = λ i. set_at (IsWay packets) f.destinations to i d idle (λ _. way) (ways i);
  again = λ i. set_at (λ (x : Destination). x.again ≡ (destination f i).again) f.destinations to i d idle
      (λ e. again ∙ ap (λ (m : ℕ). (destination f m).again) (sym e)) refl;
  budget = λ i. set_at (λ (x : Destination). x.budget ≡ (destination f i).budget) f.destinations to i d idle
      (λ e. budget ∙ ap (λ (m : ℕ). (destination f m).budget) (sym e)) refl;
  length = length-set f.destinations to d;
}

sent_entered : (packets : List SentPacket) (f : Fabric) (to level : ℕ) (q : Queued) → AreWays packets f → IsKnown packets q
    → HasEntered packets f (sent f to level q)
sent_entered packets f to level q ways k =
    let d = destination f to in
    let queue = level_of d level ++ q ∷ [] in
    cond_both (nat_lt (length (level_of d level)) most_queued) (with_destination f to (with_level d level queue)) f (HasEntered packets f)
    (λ _. entered_set packets f to (with_level d level queue) ways
    (with_queue packets d level queue (ways to) (all-append (IsKnown packets) (level_of d level) (q ∷ []) ((ways to).levels level) (k, tt))) refl refl)
    (λ _. entered_none packets f ways)

-- a frame has a byte at least
some_bytes : (s : Settings) (x : SentPacket) → 1 ≤ length (datagram s x.packet)
some_bytes s x = omega arith

all_entered : (s : Settings) (packets : List SentPacket) (xs before : List SentPacket) (n : ℕ) (f : Fabric) → packets ≡ before ++ xs
    → n ≡ length before → AreWays packets f → HasEntered packets f (all_sent s n xs f)
all_entered s packets [] before n f e l ways = entered_none packets f ways
all_entered s packets (x ∷ xs) before n f e l ways =
    let q : Queued = record { number = n; size = length (datagram s x.packet); tick = x.tick } in
    let known : IsKnown packets q = record {
      packet = x;
      at = ap (slice_get packets) l ∙ (ap (λ (l : List SentPacket). slice_get l (length before)) e ∙ get_seam before x xs);
      tick = refl;
      some = some_bytes s x;
    } in
    let next = sent f (receiver x.packet).0 x.packet.level q in
    let one = sent_entered packets f (receiver x.packet).0 x.packet.level q ways known in
    let split : packets ≡ (before ++ x ∷ []) ++ xs = e ∙ sym (append_assoc before (x ∷ []) xs) in
    let count : suc n ≡ length (before ++ x ∷ []) = omega (arith, l, length-append before (x ∷ [])) in
    entered_on packets f next (all_sent s (suc n) xs next) one (all_entered s packets xs (before ++ x ∷ []) (suc n) next split count one.ways)

-- the packets behind these
pub new_entered : (s : Settings) (old more : List SentPacket) (f : Fabric) → AreWays old f → HasEntered (old ++ more) f (all_sent s (length old) more f)
new_entered s old more f ways = all_entered s (old ++ more) more old (length old) f refl refl (λ i. way_more old more (destination f i) (ways i))
