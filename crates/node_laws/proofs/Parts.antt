-- Messages in parts stay sound, whatever comes.
use Rattle.std.proofs.Common.{◌≡◌, ℕ, ◌+◌, ◌≤◌, ◌<◌, false, Option, None, Some, List, length, refl, arith, MatchOption}
use Rattle.std.specs.Prelude.{nat_lt, min}
use Rattle.std.specs.Option.{IfSome}
use Rattle.std.proofs.lemmas.Bool.{cond_both}
use Rattle.plain_sets.specs.Ranges.{Range, IsFirstIn, NoneIn}
use Rattle.homa_plain.specs.declared.id.HostId.{HostId}
use Rattle.homa_plain.specs.Incoming.{Incoming, with_bytes, granted_to, leaves_too_many_gaps, first_gap, is_missing}
use Rattle.homa_plain.specs.Incoming as incoming
use Rattle.homa_plain.specs.Outgoing.{Outgoing, grant, restart, next, next_range, sent}
use Rattle.homa_plain.specs.Busy.{Resent, resend, is_busy, Busy, Queued}
use Rattle.homa_plain.specs.Outgoing as outgoing
use Rattle.homa_plain.proofs.OutgoingLaws.{sound-opened, sound-restart, sound-grant, sound-resend, sound-next}
use Rattle.homa_plain.proofs.ArrivalLaws.{sound-with_bytes, sound-granted_to, first-first_gap}
use Rattle.homa_plain.proofs.ArrivalLaws as arrivals
use Rattle.world_laws.specs.Sound.{IsPart, IsArriving}

-- ---- outgoing

module _ (bytes : List ℕ) (out : Outgoing) (k : IsPart bytes out) where
  pub part_granted : (offset prio : ℕ) → prio ≤ 7 → IsPart bytes (grant out offset prio)
  part_granted offset prio few = record {
    sound = sound-grant out offset prio k.sound;
    size = cond_both (nat_lt out.granted (min offset out.length)) _ _ (λ (p : Outgoing). p.length ≡ length bytes) (λ _. k.size) (λ _. k.size);
    prio = cond_both (nat_lt out.granted (min offset out.length)) _ _ (λ (p : Outgoing). p.prio ≤ 7) (λ _. few) (λ _. k.prio);
  }

  pub part_resent : (a b prio : ℕ) → prio ≤ 7 → IsPart bytes (resend out a b prio).part
  part_resent a b prio few = record {
    sound = sound-resend out a b prio k.sound;
    size = cond_both (is_busy out a (min b out.length)) _ _ (λ (r : Resent). r.part.length ≡ length bytes) (λ _. k.size) (λ _. k.size);
    prio = cond_both (is_busy out a (min b out.length)) _ _ (λ (r : Resent). r.part.prio ≤ 7) (λ _. k.prio) (λ _. few);
  }

  pub part_restarted : IsPart bytes (restart out)
  part_restarted = record { sound = sound-restart out k.sound; size = k.size; prio = k.prio }

  pub part_sent : (seg : ℕ) → IsPart bytes (next out seg).part
  part_sent seg = record { sound = sound-next out seg k.sound; size = by_size (next_range out seg); prio = by_prio (next_range out seg) } where
    by_size : (o : Option Range) → (sent out o).length ≡ length bytes
    by_size None = k.size
    by_size (Some r) = k.size

    by_prio : (o : Option Range) → (sent out o).prio ≤ 7
    by_prio None = k.prio
    by_prio (Some r) = k.prio

pub part_opened : (bytes : List ℕ) (unsched : ℕ) → IsPart bytes (outgoing.opened (length bytes) unsched)
part_opened bytes unsched = record { sound = sound-opened (length bytes) unsched; size = refl; prio = omega arith }

-- ---- incoming

pub arriving_opened : (peer : HostId) (n order unsched : ℕ) → n ≤ 1000000 → IsArriving (incoming.opened peer n order unsched)
arriving_opened peer n order unsched small = record { sound = arrivals.sound-opened peer n order unsched; size = small }

pub arriving_taken : (p : Incoming) (a : ℕ) (xs : List ℕ) → IsArriving p → a + length xs ≤ p.length → leaves_too_many_gaps p a xs ≡ false
    → IsArriving (with_bytes p a xs)
arriving_taken p a xs k within few = record { sound = sound-with_bytes p a xs k.sound within few; size = k.size }

pub arriving_granted : (p : Incoming) (offset : ℕ) → IsArriving p → offset ≤ p.length → IsArriving (granted_to p offset)
arriving_granted p offset k within = record { sound = sound-granted_to p offset k.sound within; size = k.size }

-- the first gap
pub record IsGap (r : Range) : Type 0 where
  pub some : r.from < r.to
  pub most : r.to ≤ 1000000

pub gap_is : (p : Incoming) → IsArriving p → IfSome (first_gap p) IsGap
gap_is p k = by_gap (first_gap p) (first-first_gap p) where
  by_gap : (o : Option Range) → MatchOption o (NoneIn (is_missing p) 0 p.granted) (IsFirstIn (is_missing p) 0 p.granted) → IfSome o IsGap
  by_gap None m = tt
  by_gap (Some r) m = record { some = m.some; most = omega (arith, m.high, k.sound.granted, k.size) }
