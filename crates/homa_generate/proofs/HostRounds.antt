-- A host's round, packet by packet.
use Rattle.std.proofs.Common.{◌≡◌, ℕ, suc, Option, None, Some, List, [], refl, sym, ap, ◌∙◌}
use Rattle.homa_plain.specs.declared.settings.Settings.{Settings}
use Rattle.homa_plain.specs.declared.event.Event.TheVariants as event
use Rattle.homa_plain.specs.Entries.{PlainEntry}
use Rattle.homa_plain.specs.Rules.{Answer}
use Rattle.homa_plain.specs.Script.{GivenEvent}
use Rattle.homa_plain.specs.World.{World}
use Rattle.generated_runs.specs.Fabric.{Fabric, Handed, destination, next_of, after_next}
use Rattle.generated_runs.specs.Rounds.{Generated, with_line, host_round}
use Rattle.generated_runs.proofs.Going.{handed_to, after_handed, by_number, host_step, host_none}
use Rattle.homa_generate.specs.Going.{answered, Holds, IsAt, HasGone}
use Rattle.homa_generate.proofs.Goings.{gone_on, gone_beside, gone_as}

abbrev pub deliver : ℕ → Settings → Generated → Generated
deliver number s = with_line s (GivenEvent (event.Deliver number) [])

module _ (s : Settings) (to n k : ℕ) (all : Generated → Generated) (g : Generated) (a b c : Holds) (st : World → Type 0)
    (p q : List PlainEntry → Type 0) (first : HasGone all (host_round n s to) g a b st p q)
    (life now : ℕ) (n_is : n ≡ suc k) (life_is : life ≡ s.life) (now_is : now ≡ first.next.world.clock)
    (handed : c.fabric ≡ after_next b.fabric to (next_of life now (destination b.fabric to) b.fabric.random))
    (left : c.left ≡ b.left) (counts : c.counts ≡ b.counts) (taken : c.taken ≡ b.taken) where
  same_handed : next_of life now (destination b.fabric to) b.fabric.random ≡ handed_to s to first.next
  same_handed = ap (λ (f : Fabric). next_of life now (destination f to) f.random) first.stood.fabric
      ∙ ap (λ (l : ℕ). next_of l now (destination first.next.fabric to) first.next.fabric.random) life_is
      ∙ ap (λ (t : ℕ). next_of s.life t (destination first.next.fabric to) first.next.fabric.random) now_is

  stood_after : IsAt c st (after_handed s to first.next)
  stood_after = record {
    world = first.stood.world;
    fabric = handed ∙ ap (after_next b.fabric to) same_handed ∙ ap (λ (f : Fabric). after_next f to (handed_to s to first.next)) first.stood.fabric;
    left = left ∙ first.stood.left;
  }

  step_is : (number : Option ℕ) → (next_of life now (destination b.fabric to) b.fabric.random).number ≡ number → (answers : List Answer)
      → host_round n s to (answered answers first.next) ≡ by_number k s to (answered answers (after_handed s to first.next)) number
  step_is number is answers =
      ap (λ (m : ℕ). host_round m s to (answered answers first.next)) n_is
      ∙ host_step k s to (answered answers first.next)
      ∙ ap (by_number k s to (answered answers (after_handed s to first.next))) (ap (λ (h : Handed). h.number) (sym same_handed) ∙ is)

  -- its round ends
  pub round_ended : (next_of life now (destination b.fabric to) b.fabric.random).number ≡ None → HasGone all (λ x. x) g a c st p q
  round_ended is =
      gone_on all (host_round n s to) (λ x. x) g a b c st st p q q first
      (gone_beside (host_round n s to) (λ x. x) first.next (after_handed s to first.next) b c st q stood_after refl refl counts taken (step_is None is))

  -- it is handed a packet
  pub packet_handed : (number : ℕ) → (next_of life now (destination b.fabric to) b.fabric.random).number ≡ Some number
      → HasGone all (λ x. host_round k s to (deliver number s x)) g a c st p q
  packet_handed number is =
      gone_on all (host_round n s to) (λ x. host_round k s to (deliver number s x)) g a b c st st p q q first
      (gone_beside (host_round n s to) (λ x. host_round k s to (deliver number s x)) first.next (after_handed s to first.next) b c st q stood_after
      refl refl counts taken (step_is (Some number) is))

-- so many packets were handed over
pub round_spent : (s : Settings) (to n : ℕ) (all : Generated → Generated) (g : Generated) (a b : Holds) (st : World → Type 0)
    (p q : List PlainEntry → Type 0) → n ≡ 0 → HasGone all (host_round n s to) g a b st p q → HasGone all (λ x. x) g a b st p q
round_spent s to n all g a b st p q none first =
    gone_as all (host_round n s to) (λ x. x) g a b st p q first
    (λ answers. ap (λ (m : ℕ). host_round m s to (answered answers first.next)) none ∙ host_none s to (answered answers first.next))
