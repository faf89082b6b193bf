-- Packets that aren't too old yet.
use Rattle.std.proofs.Common.{◌≡◌, ◌≤◌, ◌<◌, ℕ, zero, suc, ◌+◌, ◌*◌, Some, List, [], ◌∷◌, ◌++◌, length, inl, inr, refl, ◌∙◌, arith}
use Rattle.std.specs.Prelude.{true, map, nat_lt, replicate, slice_get}
use Rattle.std.specs.List.{flat_map, list_all}
use Rattle.std.proofs.lemmas.Bool.Decides.{nat_tests}
use Rattle.std.proofs.lemmas.Option.{slice_get_within}
use Rattle.homa_plain.specs.declared.settings.Settings.{Settings}
use Rattle.world_packets.specs.declared.late_ticks.Later.{Later}
use Rattle.world_packets.specs.declared.late_ticks.LateTicks.{LateTicks}
use Rattle.world_packets.specs.declared.tick.Tick.{Tick}
use Rattle.world_packets.specs.declared.past.Old.{Old}
use Rattle.world_packets.specs.declared.past.Past.{Past}
use Rattle.world_packets.specs.declared.past.Past.TheVariants.{Late, Stale}
use Rattle.world_packets.specs.Blocks.{Frame, frames_of}
use Rattle.world_packets.specs.Olds.{HasNotOld}
use Rattle.world_packets.specs.Kept.{KeptPacket, WholePacket, LatePacket, StalePacket, IsRecent, HasRecent, HasNoOld}
use Rattle.world_packets.specs.Later.{later_kept}
use Rattle.world_packets.specs.Lates.{late_of}
use Rattle.world_packets.specs.Ticks.{kept_of}
use Rattle.world_packets.specs.Past.{past_kept, olds_kept}
use Rattle.world_packets.proofs.Frames.{both, join}
use Rattle.world_packets.proofs.Parts.{get-left}
use Rattle.world_packets.proofs.AllLaws.{whole_at}

-- ---- each tick has a packet

to_lt : (n : ℕ) → 0 < n → nat_lt 0 n ≡ true
to_lt n h = grind (arith, nat_tests, h)

from_lt : (n : ℕ) → nat_lt 0 n ≡ true → 0 < n
from_lt n e = grind (arith, nat_tests, e)

abbrev pub EachHolds : List Tick → Type 0
EachHolds ts = list_all (λ (t : Tick). nat_lt 0 (length (kept_of t))) ts ≡ true

pub holds_first : (t : Tick) (ts : List Tick) → EachHolds (t ∷ ts) → 0 < length (kept_of t)
holds_first t ts e = from_lt (length (kept_of t)) (both (nat_lt 0 (length (kept_of t))) (list_all (λ (u : Tick). nat_lt 0 (length (kept_of u))) ts) e).0

pub holds_rest : (t : Tick) (ts : List Tick) → EachHolds (t ∷ ts) → EachHolds ts
holds_rest t ts e = (both (nat_lt 0 (length (kept_of t))) (list_all (λ (u : Tick). nat_lt 0 (length (kept_of u))) ts) e).1

pub holds_push : (ts : List Tick) (t : Tick) → EachHolds ts → 0 < length (kept_of t) → EachHolds (ts ++ t ∷ [])
holds_push [] t e h = join (nat_lt 0 (length (kept_of t))) true (to_lt (length (kept_of t)) h) refl
holds_push (u ∷ ts) t e h =
    let b = both (nat_lt 0 (length (kept_of u))) (list_all (λ (v : Tick). nat_lt 0 (length (kept_of v))) ts) e in
    join (nat_lt 0 (length (kept_of u))) (list_all (λ (v : Tick). nat_lt 0 (length (kept_of v))) (ts ++ t ∷ [])) b.0 (holds_push ts t b.1 h)

-- ---- packets that aren't too old yet

module _ (s : Settings) (now : ℕ) where
  has_recent-left : (tick : ℕ) (ks ls : List KeptPacket) → HasRecent s now tick ks → HasRecent s now tick (ks ++ ls)
  has_recent-left tick ks ls h = record {
    number = h.number;
    frame = h.frame;
    whole = get-left ks ls h.number (slice_get_within ks h.number (WholePacket tick h.frame) h.whole) ∙ h.whole;
    recent = h.recent;
  }

  pub no_old-append : (ks ls : List KeptPacket) → HasNoOld s now ks → HasNoOld s now ls → HasNoOld s now (ks ++ ls)
  no_old-append [] ls p q = q
  no_old-append (WholePacket tick f ∷ ks) ls p q = has_recent-left tick (WholePacket tick f ∷ ks) ls p
  no_old-append (LatePacket tick ∷ ks) ls p q = no_old-append ks ls p q
  no_old-append (StalePacket to at ∷ ks) ls p q = no_old-append ks ls p q

  -- ---- those that were given up before

  no_old-late : (n tick : ℕ) → HasNoOld s now (replicate n (LatePacket tick))
  no_old-late zero tick = tt
  no_old-late (suc n) tick = no_old-late n tick

  no_old-later : (tick : ℕ) (ls : List Later) → HasNoOld s now (later_kept tick ls)
  no_old-later tick [] = tt
  no_old-later tick (l ∷ ls) = no_old-append (replicate l.count (LatePacket (tick + l.gap))) (later_kept (tick + l.gap) ls)
      (no_old-late l.count (tick + l.gap)) (no_old-later (tick + l.gap) ls)

  no_old-late_ticks : (t : LateTicks) → HasNoOld s now (late_of t)
  no_old-late_ticks t =
      no_old-append (replicate t.many (LatePacket t.tick)) (later_kept t.tick t.later.items) (no_old-late t.many t.tick) (no_old-later t.tick t.later.items)

  no_old-full : (ts : List LateTicks) → HasNoOld s now (flat_map late_of ts)
  no_old-full [] = tt
  no_old-full (t ∷ ts) = no_old-append (late_of t) (flat_map late_of ts) (no_old-late_ticks t) (no_old-full ts)

  no_old-olds : (olds : List Old) → HasNoOld s now (olds_kept olds)
  no_old-olds [] = tt
  no_old-olds (o ∷ olds) = no_old-olds olds

  pub no_old-past : (p : Past) → HasNoOld s now (past_kept p)
  no_old-past (Late lates) =
      no_old-append (flat_map late_of lates.full.items) (late_of lates.latest) (no_old-full lates.full.items) (no_old-late_ticks lates.latest)
  no_old-past (Stale olds) = no_old-olds olds.items

  -- ---- the packets of a tick

  pub no_old-one : (tick : ℕ) (frames : List Frame) (i : ℕ) (f : Frame) → slice_get frames i ≡ Some f → IsRecent s now tick f
      → HasNoOld s now (map (WholePacket tick) frames)
  no_old-one tick [] i f e r = tt
  no_old-one tick (g ∷ frames) i f e r = record { number = i; frame = f; whole = whole_at tick (g ∷ frames) i f e; recent = r }

  -- its tick alone says so
  pub no_old-tick : (tick : ℕ) (frames : List Frame) → (s.wire ≡ 1 → now ≤ tick + s.life) → (s.wire ≡ 2 → now ≤ tick + s.life + 4 * s.skew)
      → HasNoOld s now (map (WholePacket tick) frames)
  no_old-tick tick [] one two = tt
  no_old-tick tick (f ∷ frames) one two = no_old-one tick (f ∷ frames) 0 f refl (record { in_time = one; not_stale = λ e. inl (two e) })

  -- the clock of one of them does
  pub no_old-clock : (tick reach : ℕ) (frames : List Frame) → s.wire ≡ 2 → reach ≡ s.life + 2 * s.skew → HasNotOld reach now frames
      → HasNoOld s now (map (WholePacket tick) frames)
  no_old-clock tick reach frames two e h = no_old-one tick frames h.0 h.1 h.2 (record {
    in_time = λ one. absurd (omega (arith, one, two));
    not_stale = λ _. inr (λ at tells. omega (arith, h.3 at tells, e));
  })

  -- and then there may be more behind them
  no_old-front : (tick : ℕ) (frames : List Frame) (rest : List KeptPacket) → 0 < length (map (WholePacket tick) frames)
      → HasNoOld s now (map (WholePacket tick) frames) → HasNoOld s now (map (WholePacket tick) frames ++ rest)
  no_old-front tick [] rest l h = absurd (omega (arith, l))
  no_old-front tick (f ∷ frames) rest l h = has_recent-left tick (map (WholePacket tick) (f ∷ frames)) rest h

  pub no_old-ticks : (t : Tick) (ts : List Tick) → EachHolds (t ∷ ts) → HasNoOld s now (kept_of t) → HasNoOld s now (flat_map kept_of (t ∷ ts))
  no_old-ticks t ts e h = no_old-front t.tick (frames_of t.block) (flat_map kept_of ts) (holds_first t ts e) h

  -- ---- all packets

  pub no_old-all : (past : Past) (ts : List Tick) (tick : ℕ) (frames : List Frame) → tick ≡ now → HasNoOld s now (flat_map kept_of ts)
      → HasNoOld s now (past_kept past ++ flat_map kept_of ts ++ map (WholePacket tick) frames)
  no_old-all past ts tick frames e h =
      no_old-append (past_kept past ++ flat_map kept_of ts) (map (WholePacket tick) frames)
      (no_old-append (past_kept past) (flat_map kept_of ts) (no_old-past past) h)
      (no_old-tick tick frames (λ _. omega (arith, e)) (λ _. omega (arith, e)))
