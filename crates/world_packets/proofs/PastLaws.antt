-- Packets that became too old.
use Rattle.std.proofs.Common.{◌*◌, ◌≡◌, ◌<◌, ℕ, zero, suc, ◌+◌, Some, List, [], ◌∷◌, ◌++◌, length, take, refl, sym, ap, ◌∙◌, subst, arith}
use Rattle.std.proofs.Math.Seq.{take-length}
use Rattle.std.specs.Prelude.{Bool, true, false, Result, Ok, Err, IfOk, map, replicate, slice_get}
use Rattle.core.specs.declared.alloc.AllocError.{AllocError}
use Rattle.homa_plain.specs.declared.settings.Settings.{Settings}
use Rattle.homa_plain.specs.declared.packet.Packet.{Packet as WirePacket}
use Rattle.homa_plain.specs.Wire.{packet_in}
use Rattle.world_packets.specs.declared.past.Old.{Old}
use Rattle.world_packets.specs.Blocks.{Frame}
use Rattle.world_packets.specs.Olds.{TellsClock, IsOld, AreOlds, AddsOlds, IfTaken}
use Rattle.world_packets.specs.Kept.{KeptPacket, WholePacket, LatePacket, StalePacket, AllAged}
use Rattle.world_packets.specs.Past.{olds_kept}
use Rattle.world_packets.proofs.Ages.{all_aged_self, all_aged-append, late_aged, stale_aged}

-- what follows of an answer
pub if_taken : (r : Result Bool AllocError) (P Q R S : Type 0) → (P → R) → (Q → S) → IfTaken r P Q → IfTaken r R S
if_taken (Ok true) P Q R S f g h = f h
if_taken (Ok false) P Q R S f g h = g h
if_taken (Err e) P Q R S f g h = g h

pub if_left : (r : Result Bool AllocError) (P Q : Type 0) → (P → Q) → IfOk r (λ taken. taken ≡ false → P) → IfOk r (λ taken. taken ≡ false → Q)
if_left (Ok taken) P Q f h = λ e. f (h e)
if_left (Err e) P Q f h = h

-- ---- packets that are certainly stale

pub tells_clock : (bytes payload : List ℕ) (packet : WirePacket) → Some (packet, payload) ≡ packet_in 2 bytes → TellsClock bytes packet.at
tells_clock bytes payload packet e = ((packet, payload), sym e, refl)

-- one packet more
pub adds_more : (reach now : ℕ) (frames : List Frame) (before after : List Old) (i : ℕ) (f : Frame) (o : Old)
    → AddsOlds reach now (take i frames) before after → slice_get frames i ≡ Some f → IsOld reach now f.to f.bytes o
    → AddsOlds reach now (take (i + 1) frames) before (after ++ o ∷ [])
adds_more reach now frames before after i f o a e is =
    let next : suc i ≡ i + 1 = omega arith in (
      a.0 ++ o ∷ [],
      ap (λ (os : List Old). os ++ o ∷ []) a.1 ∙ assoc before a.0 (o ∷ []),
      subst (λ (k : ℕ). AreOlds reach now (take k frames) (a.0 ++ o ∷ [])) next (more frames a.0 i a.2 e),
    )
  where
    assoc : (xs ys zs : List Old) → (xs ++ ys) ++ zs ≡ xs ++ (ys ++ zs)
    assoc [] ys zs = refl
    assoc (x ∷ xs) ys zs = ap (λ (os : List Old). x ∷ os) (assoc xs ys zs)

    more : (frames : List Frame) (olds : List Old) (i : ℕ) → AreOlds reach now (take i frames) olds → slice_get frames i ≡ Some f
        → AreOlds reach now (take (suc i) frames) (olds ++ o ∷ [])
    more [] olds i h e = absurd cc
    more (g ∷ frames) [] zero h e = let same : f ≡ g = cc in (subst (λ (x : Frame). IsOld reach now x.to x.bytes o) same is, tt)
    more (g ∷ frames) (p ∷ olds) zero h e = absurd h
    more (g ∷ frames) [] (suc i) h e = absurd h
    more (g ∷ frames) (p ∷ olds) (suc i) h e = (h.0, more frames olds i h.1 e)

pub adds_none : (reach now : ℕ) (frames : List Frame) (olds : List Old) → AddsOlds reach now (take 0 frames) olds olds
adds_none reach now frames olds = ([], sym (no_more olds), tt) where
  no_more : (os : List Old) → os ++ [] ≡ os
  no_more [] = refl
  no_more (o ∷ os) = ap (λ (ps : List Old). o ∷ ps) (no_more os)

pub adds_all : (reach now : ℕ) (frames : List Frame) (before after : List Old) (n : ℕ) → n ≡ length frames
    → AddsOlds reach now (take n frames) before after → AddsOlds reach now frames before after
adds_all reach now frames before after n e h =
    subst (λ (fs : List Frame). AddsOlds reach now fs before after) (ap (λ (k : ℕ). take k frames) e ∙ take-length frames) h

-- what was there before
pub still_before : (reach now : ℕ) (frames : List Frame) (before after : List Old) → AddsOlds reach now frames before after
    → take (length before) after ≡ before
still_before reach now frames before after a = ap (λ (os : List Old). take (length before) os) a.1 ∙ front before a.0 where
  front : (xs ys : List Old) → take (length xs) (xs ++ ys) ≡ xs
  front [] ys = refl
  front (x ∷ xs) ys = ap (λ (os : List Old). x ∷ os) (front xs ys)

pub olds-append : (xs ys : List Old) → olds_kept (xs ++ ys) ≡ olds_kept xs ++ olds_kept ys
olds-append [] ys = refl
olds-append (x ∷ xs) ys = ap (λ (ks : List KeptPacket). StalePacket x.to x.at ∷ ks) (olds-append xs ys)

pub old_at : (olds : List Old) (i : ℕ) (o : Old) → slice_get olds i ≡ Some o → slice_get (olds_kept olds) i ≡ Some (StalePacket o.to o.at)
old_at [] i o e = absurd cc
old_at (p ∷ olds) zero o e = let same : p ≡ o = cc in ap (λ (x : Old). Some (StalePacket x.to x.at)) same
old_at (p ∷ olds) (suc i) o e = old_at olds i o e

-- ---- a tick's packets behind those that were too old before

module _ (s : Settings) (now tick : ℕ) (frames : List Frame) where
  pub takes_late : (before after : List KeptPacket) (n : ℕ) → n ≡ length frames → s.wire ≡ 1 → tick + s.life < now
      → after ≡ before ++ replicate n (LatePacket tick)
      → AllAged s now (before ++ map (WholePacket tick) frames) after
  takes_late before after n e one old is =
      subst (AllAged s now (before ++ map (WholePacket tick) frames)) (sym is)
      (all_aged-append s now before before (map (WholePacket tick) frames) (replicate n (LatePacket tick)) (all_aged_self s now before)
      (late_aged s now tick frames n e one old))

  pub takes_stale : (before after : List Old) (reach : ℕ) → s.wire ≡ 2 → reach ≡ s.life + 2 * s.skew → AddsOlds reach now frames before after
      → AllAged s now (olds_kept before ++ map (WholePacket tick) frames) (olds_kept after)
  takes_stale before after reach two far a =
      subst (AllAged s now (olds_kept before ++ map (WholePacket tick) frames)) (sym (ap olds_kept a.1 ∙ olds-append before a.0))
      (all_aged-append s now (olds_kept before) (olds_kept before) (map (WholePacket tick) frames) (olds_kept a.0)
      (all_aged_self s now (olds_kept before)) (stale_aged s now tick reach frames a.0 two far a.2))
