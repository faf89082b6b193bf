-- What a host is handed may be delivered, and after that less is left.
use Rattle.std.proofs.Common.{◌≡◌, ℕ, zero, suc, ◌+◌, ◌-◌, ◌*◌, ◌<◌, ◌≤◌, Bool, true, false, Option, Some, None, List, [], ◌∷◌, refl, sym, ap, ◌∙◌}
use Rattle.std.proofs.Common.{subst, arith}
use Rattle.std.specs.Prelude.{nat_lt, is_some, ◌==◌, ◌&&◌}
use Rattle.std.specs.Option.{IfSome}
use Rattle.std.specs.List.{AllByRecursion}
use Rattle.std.proofs.lemmas.Bool.{cond_both}
use Rattle.std.proofs.lemmas.Bool.Decides.{nat_tests}
use Rattle.rand_pcg.specs.Lcg.{Lcg}
use Rattle.homa_plain.specs.declared.settings.Settings.{Settings}
use Rattle.homa_plain.specs.World.{World, is_late}
use Rattle.generated_runs.specs.Draws.{draw}
use Rattle.generated_runs.specs.Fabric.{Queued, Destination, Hop, Ends, Loses, Hands, Handed, level_of, with_level, highest, drawn, first_hop}
use Rattle.generated_runs.specs.Fabric.{level_hop, again_hop, hop, handed, next_of, on_the_way}
use Rattle.generated_laws.proofs.Events.{IsDeliverable}
use Rattle.generated_laws.proofs.Ways.{IsKnown, IsWay, with_queue}

-- how many packets are handed over a second time
abbrev pub pending : Option ℕ → ℕ
pending None = 0
pending (Some number) = 1

-- how often a host may be handed a packet at most
abbrev pub left_to : Destination → ℕ
left_to d = 2 * d.budget + pending d.again

abbrev pub MayCome : Settings → World → Option ℕ → Type 0
MayCome s w o = IfSome o (IsDeliverable s w)

-- what a host is handed, of what is on its way
pub record IsHanded (s : Settings) (w : World) (d : Destination) (h : Handed) : Type 0 where
  pub way : IsWay w.packets h.to
  pub given : MayCome s w h.number
  pub again : MayCome s w h.to.again
  pub ended : h.number ≡ None → h.to.again ≡ None
  pub less : is_some h.number ≡ true → left_to h.to < left_to d

module _ (s : Settings) (w : World) (d : Destination) (way : IsWay w.packets d) where
  -- what becomes of the packet that comes first
  abbrev IsHop : Hop → Type 0
  IsHop Ends = d.again ≡ None
  IsHop (Loses rest random) = IsWay w.packets rest × (rest.again ≡ None) × (left_to rest ≤ left_to d)
  IsHop (Hands number rest random) = IsDeliverable s w number × IsWay w.packets rest × MayCome s w rest.again × (left_to rest < left_to d)

  -- a packet of which a byte may be handed over: it is lost, handed over twice, or once
  drawn_hop : (rest : Destination) (q : Queued) (x : ℕ × Lcg) → IsWay w.packets rest → rest.again ≡ None → IsDeliverable s w q.number
      → 2 * rest.budget + 1 < left_to d → IsHop (drawn q rest x)
  drawn_hop rest q (zero, random) k none may less = (k, none, omega (arith, less, ap pending none))
  drawn_hop rest q (suc zero, random) k none may less = (may, record { levels = k.levels; budget = k.budget }, may, less)
  drawn_hop rest q (suc (suc n), random) k none may less = (may, k, subst (MayCome s w) (sym none) tt, omega (arith, less, ap pending none))

  queue_hop : (level : ℕ) (queue : List Queued) (random : Lcg) → d.again ≡ None → AllByRecursion (IsKnown w.packets) queue
      → IsHop (first_hop s.life w.clock d random level queue)
  queue_hop level [] random none all = none
  queue_hop level (q ∷ qs) random none all =
      let rest = with_level d level qs in
      let k = with_queue w.packets d level qs way all.1 in
      let paid = record rest { budget = d.budget - q.size } in
      cond_both (nat_lt d.budget q.size) Ends _ IsHop (λ _. none)
      (λ fits. cond_both (nat_lt (q.tick + s.life) w.clock) (Loses rest random) _ IsHop (λ _. (k, none, omega arith))
      (λ young.
      let enough : q.size ≤ d.budget = grind (arith, nat_tests, fits) in
      let same : (s.wire == 1 && nat_lt (q.tick + s.life) w.clock) ≡ false = not_late (s.wire == 1) (nat_lt (q.tick + s.life) w.clock) young in
      let fresh : is_late s w (all.0).packet.tick ≡ false = ap (λ (t : ℕ). is_late s w t) (all.0).tick ∙ same in
      drawn_hop paid q (draw 64 random) (record { levels = k.levels; budget = omega (arith, way.budget) }) none
      (record { sent = (all.0).packet; at = (all.0).at; fresh = fresh }) (omega (arith, enough, (all.0).some, ap pending none)))) where
        not_late : (a b : Bool) → b ≡ false → (a && b) ≡ false
        not_late true b e = e
        not_late false b e = refl

  level_is_hop : (random : Lcg) (o : Option ℕ) → d.again ≡ None → IsHop (level_hop s.life w.clock d random o)
  level_is_hop random None none = none
  level_is_hop random (Some level) none = queue_hop level (level_of d level) random none (way.levels level)

  again_is_hop : (random : Lcg) (o : Option ℕ) → d.again ≡ o → MayCome s w o → IsHop (again_hop s.life w.clock d random o)
  again_is_hop random (Some number) e may = (may, record { levels = way.levels; budget = way.budget }, tt, omega (arith, ap pending e))
  again_is_hop random None e may = level_is_hop random (highest 0 d.levels) e

  pub is_hop : (random : Lcg) → MayCome s w d.again → IsHop (hop s.life w.clock d random)
  is_hop random may = again_is_hop random d.again refl may

-- what is handed over, by the first packet
abbrev by_hop : ℕ → ℕ → ℕ → Destination → Lcg → Hop → Handed
by_hop n life now d random Ends = record { number = None; to = d; random = random }
by_hop n life now d random (Loses rest later) = handed n life now rest later
by_hop n life now d random (Hands number rest later) = record { number = Some number; to = rest; random = later }

handed_step : (n life now : ℕ) (d : Destination) (random : Lcg) → handed (suc n) life now d random ≡ by_hop n life now d random (hop life now d random)
unfolding handed
handed_step n life now d random = refl

handed_none : (life now : ℕ) (d : Destination) (random : Lcg) → handed zero life now d random ≡ record { number = None; to = d; random = random }
unfolding handed
handed_none life now d random = refl

ended_handed : (s : Settings) (w : World) (d : Destination) (random : Lcg) → IsWay w.packets d → d.again ≡ None
    → IsHanded s w d (record { number = None; to = d; random = random })
ended_handed s w d random way none = record { way = way; given = tt; again = subst (MayCome s w) (sym none) tt; ended = λ _. none; less = λ e. absurd cc }

is_handed : (n : ℕ) (s : Settings) (w : World) (d : Destination) (random : Lcg) → IsWay w.packets d → MayCome s w d.again → (n ≡ 0 → d.again ≡ None)
    → IsHanded s w d (handed n s.life w.clock d random)
is_handed zero s w d random way may last = rw (handed_none s.life w.clock d random) (ended_handed s w d random way (last refl))
is_handed (suc n) s w d random way may last =
    rw (handed_step n s.life w.clock d random)
    (by_first (λ rest later k none. is_handed n s w rest later k (subst (MayCome s w) (sym none) tt) (λ _. none))
    (hop s.life w.clock d random) (is_hop s w d way random may)) where
      by_first : ((rest : Destination) (later : Lcg) → IsWay w.packets rest → rest.again ≡ None → IsHanded s w rest (handed n s.life w.clock rest later))
          → (x : Hop) → IsHop s w d way x → IsHanded s w d (by_hop n s.life w.clock d random x)
      by_first on Ends none = ended_handed s w d random way none
      by_first on (Loses rest later) k =
          let h = on rest later k.0 k.1 in
          record { way = h.way; given = h.given; again = h.again; ended = h.ended; less = λ e. omega (arith, h.less e, k.2) }
      by_first on (Hands number rest later) k =
          record { way = k.1; given = k.0; again = k.2; ended = λ e. absurd (let f : Some number ≡ None = e in cc); less = λ _. k.3 }

pub next_handed : (s : Settings) (w : World) (d : Destination) (random : Lcg) → IsWay w.packets d → MayCome s w d.again
    → IsHanded s w d (next_of s.life w.clock d random)
next_handed s w d random way may = is_handed (suc (on_the_way d)) s w d random way may (λ e. absurd (omega (arith, e)))
