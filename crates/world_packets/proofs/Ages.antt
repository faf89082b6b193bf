-- Packets that became too old.
use Rattle.std.proofs.Common.{◌≡◌, ◌<◌, ℕ, zero, suc, ◌+◌, ◌*◌, List, [], ◌∷◌, ◌++◌, length, refl, sym, ap, ◌∙◌, subst, arith}
use Rattle.std.specs.Prelude.{map, replicate}
use Rattle.homa_plain.specs.declared.settings.Settings.{Settings}
use Rattle.world_packets.specs.declared.past.Old.{Old}
use Rattle.world_packets.specs.Blocks.{Frame}
use Rattle.world_packets.specs.Olds.{TellsClock, AreOlds}
use Rattle.world_packets.specs.Kept.{KeptPacket, WholePacket, LatePacket, StalePacket, IsAged, AllAged}
use Rattle.world_packets.specs.Past.{olds_kept}

module _ (s : Settings) (now : ℕ) where
  aged_self : (k : KeptPacket) → IsAged s now k k
  aged_self (WholePacket tick f) = (refl, refl)
  aged_self (LatePacket tick) = refl
  aged_self (StalePacket to at) = (refl, refl)

  pub all_aged_self : (ks : List KeptPacket) → AllAged s now ks ks
  all_aged_self [] = tt
  all_aged_self (k ∷ ks) = (aged_self k, all_aged_self ks)

  pub all_aged-append : (ks ls ms ns : List KeptPacket) → AllAged s now ks ls → AllAged s now ms ns → AllAged s now (ks ++ ms) (ls ++ ns)
  all_aged-append [] [] ms ns p q = q
  all_aged-append [] (l ∷ ls) ms ns p q = absurd p
  all_aged-append (k ∷ ks) [] ms ns p q = absurd p
  all_aged-append (k ∷ ks) (l ∷ ls) ms ns p q = (p.0, all_aged-append ks ls ms ns p.1 q)

  aged_on : (a b c : KeptPacket) → IsAged s now a b → IsAged s now b c → IsAged s now a c
  aged_on (WholePacket t f) (WholePacket u g) (WholePacket v h) p q = (q.0 ∙ p.0, q.1 ∙ p.1)
  aged_on (WholePacket t f) (WholePacket u g) (LatePacket v) p q = (q.0, q.1 ∙ p.0, omega (arith, q.2, p.0))
  aged_on (WholePacket t f) (WholePacket u g) (StalePacket to at) p q =
      (q.0, q.1 ∙ ap (λ (x : Frame). x.to) p.1, subst (λ (x : Frame). TellsClock x.bytes at) p.1 q.2, q.3)
  aged_on (WholePacket t f) (LatePacket u) (LatePacket v) p q = (p.0, q ∙ p.1, p.2)
  aged_on (WholePacket t f) (LatePacket u) (WholePacket v h) p q = absurd q
  aged_on (WholePacket t f) (LatePacket u) (StalePacket to at) p q = absurd q
  aged_on (WholePacket t f) (StalePacket to at) (StalePacket other later) p q =
      (p.0, q.0 ∙ p.1, subst (λ (n : ℕ). TellsClock f.bytes n) (sym q.1) p.2, subst (λ (n : ℕ). n + s.life + 2 * s.skew < now) (sym q.1) p.3)
  aged_on (WholePacket t f) (StalePacket to at) (WholePacket v h) p q = absurd q
  aged_on (WholePacket t f) (StalePacket to at) (LatePacket v) p q = absurd q
  aged_on (LatePacket t) (LatePacket u) (LatePacket v) p q = q ∙ p
  aged_on (LatePacket t) (LatePacket u) (WholePacket v h) p q = absurd q
  aged_on (LatePacket t) (LatePacket u) (StalePacket to at) p q = absurd q
  aged_on (LatePacket t) (WholePacket u g) c p q = absurd p
  aged_on (LatePacket t) (StalePacket to at) c p q = absurd p
  aged_on (StalePacket to at) (StalePacket o l) (StalePacket o2 l2) p q = (q.0 ∙ p.0, q.1 ∙ p.1)
  aged_on (StalePacket to at) (StalePacket o l) (WholePacket v h) p q = absurd q
  aged_on (StalePacket to at) (StalePacket o l) (LatePacket v) p q = absurd q
  aged_on (StalePacket to at) (WholePacket u g) c p q = absurd p
  aged_on (StalePacket to at) (LatePacket u) c p q = absurd p

  pub all_aged_on : (ks ls ms : List KeptPacket) → AllAged s now ks ls → AllAged s now ls ms → AllAged s now ks ms
  all_aged_on [] [] ms p q = q
  all_aged_on [] (l ∷ ls) ms p q = absurd p
  all_aged_on (k ∷ ks) [] ms p q = absurd p
  all_aged_on (k ∷ ks) (l ∷ ls) [] p q = absurd q
  all_aged_on (k ∷ ks) (l ∷ ls) (m ∷ ms) p q = (aged_on k l m p.0 q.0, all_aged_on ks ls ms p.1 q.1)

  pub length-aged : (ks ls : List KeptPacket) → AllAged s now ks ls → length ls ≡ length ks
  length-aged [] [] p = refl
  length-aged [] (l ∷ ls) p = absurd p
  length-aged (k ∷ ks) [] p = absurd p
  length-aged (k ∷ ks) (l ∷ ls) p = ap suc (length-aged ks ls p.1)

  -- ---- the packets of a tick

  pub late_aged : (tick : ℕ) (frames : List Frame) (n : ℕ) → n ≡ length frames → s.wire ≡ 1 → tick + s.life < now
      → AllAged s now (map (WholePacket tick) frames) (replicate n (LatePacket tick))
  late_aged tick [] zero e one old = tt
  late_aged tick [] (suc n) e one old = absurd (omega (arith, e))
  late_aged tick (f ∷ frames) zero e one old = absurd (omega (arith, e))
  late_aged tick (f ∷ frames) (suc n) e one old = ((one, refl, old), late_aged tick frames n (omega (arith, e)) one old)

  pub stale_aged : (tick reach : ℕ) (frames : List Frame) (olds : List Old) → s.wire ≡ 2 → reach ≡ s.life + 2 * s.skew → AreOlds reach now frames olds
      → AllAged s now (map (WholePacket tick) frames) (olds_kept olds)
  stale_aged tick reach [] [] two e h = tt
  stale_aged tick reach [] (o ∷ olds) two e h = absurd h
  stale_aged tick reach (f ∷ frames) [] two e h = absurd h
  stale_aged tick reach (f ∷ frames) (o ∷ olds) two e h = ((two, h.0.0, h.0.1, omega (arith, h.0.2, e)), stale_aged tick reach frames olds two e h.1)
