-- All packets of a world.
use Rattle.std.proofs.Common.{◌≡◌, ◌<◌, ◌≤◌, ℕ, zero, suc, ◌+◌, ◌-◌, true, false, Some, List, [], ◌∷◌, ◌++◌, length, length-append, append_assoc}
use Rattle.std.proofs.Common.{get_or, drop, sym, ap, ◌∙◌, subst, arith}
use Rattle.std.specs.Prelude.{◌==◌, map, slice_get}
use Rattle.std.specs.List.{flat_map}
use Rattle.std.proofs.lemmas.Bool.Decides.{nat_tests}
use Rattle.homa_plain.specs.declared.settings.Settings.{Settings}
use Rattle.world_packets.specs.declared.tick.Tick.{Tick}
use Rattle.world_packets.specs.Blocks.{Frame}
use Rattle.world_packets.specs.Kept.{KeptPacket, WholePacket, AllAged}
use Rattle.world_packets.specs.Ticks.{kept_of}
use Rattle.world_packets.specs.Firsts.{firsts_at, IsIn}
use Rattle.world_packets.proofs.Ages.{all_aged_self, all_aged-append, length-aged}
use Rattle.world_packets.proofs.Parts.{firsts_end, rest_firsts, get-left, get-right}

-- where the ticks begin behind so many packets, and where they end
abbrev pub TicksEnd : ℕ → List Tick → ℕ → Type 0
TicksEnd n ts end = firsts_at (λ (t : Tick). t.first) kept_of n ts end ≡ true

-- how many there are
pub count_all : (past : List KeptPacket) (ts : List Tick) (first : ℕ) (front : List KeptPacket) (n : ℕ) → TicksEnd (length past) ts first
    → length front ≡ n → first + n ≡ length (past ++ flat_map kept_of ts ++ front)
count_all past ts first front n e h =
    let end = firsts_end (λ (t : Tick). t.first) kept_of (length past) ts first e in
    let two = length-append past (flat_map kept_of ts) in
    let all = length-append (past ++ flat_map kept_of ts) front in
    omega (arith, end, two, all, h)

-- one that is too old
pub in_past : (past some rest : List KeptPacket) (n : ℕ) (k : KeptPacket) → n < length past → slice_get past n ≡ Some k
    → slice_get (past ++ some ++ rest) n ≡ Some k
in_past past some rest n k h g =
    let two = length-append past some in
    get-left (past ++ some) rest n (omega (arith, two, h)) ∙ get-left past some n h ∙ g

-- one of an earlier tick
pub earlier : (past : List KeptPacket) (ts : List Tick) (first n : ℕ) (t : Tick) (front : List KeptPacket) (k : KeptPacket)
    → TicksEnd (length past) ts first → length past ≤ n → n < first → IsIn (λ (t : Tick). t.first) kept_of ts (length past) n t
    → slice_get (kept_of t) (n - t.first) ≡ Some k → slice_get (past ++ flat_map kept_of ts ++ front) n ≡ Some k
earlier past ts first n t front k e from to is g =
    let end = firsts_end (λ (t : Tick). t.first) kept_of (length past) ts first e in
    let two = length-append past (flat_map kept_of ts) in
    get-left (past ++ flat_map kept_of ts) front n (omega (arith, end, two, to))
    ∙ get-right past (flat_map kept_of ts) (n - length past) n (omega (arith, from))
    ∙ is.same ∙ g

-- one of the last tick
pub in_front : (past : List KeptPacket) (ts : List Tick) (first n : ℕ) (front : List KeptPacket) (k : KeptPacket) → TicksEnd (length past) ts first
    → first ≤ n → slice_get front (n - first) ≡ Some k → slice_get (past ++ flat_map kept_of ts ++ front) n ≡ Some k
in_front past ts first n front k e h g =
    let end = firsts_end (λ (t : Tick). t.first) kept_of (length past) ts first e in
    let two = length-append past (flat_map kept_of ts) in
    get-right (past ++ flat_map kept_of ts) front (n - first) n (omega (arith, end, two, h)) ∙ g

pub whole_at : (tick : ℕ) (frames : List Frame) (i : ℕ) (f : Frame) → slice_get frames i ≡ Some f
    → slice_get (map (WholePacket tick) frames) i ≡ Some (WholePacket tick f)
whole_at tick [] i f e = absurd cc
whole_at tick (g ∷ frames) zero f e = let same : g ≡ f = cc in ap (λ (x : Frame). Some (WholePacket tick x)) same
whole_at tick (g ∷ frames) (suc i) f e = whole_at tick frames i f e

-- ---- the oldest tick is given up

pub not_none : (n : ℕ) → false ≡ (n == 0) → 0 < n
not_none n e = grind (arith, nat_tests, e)

pub front_tick : (ts rest : List Tick) (t : Tick) → 0 < length ts → t ≡ get_or ts 0 t → rest ≡ drop 1 ts → ts ≡ t ∷ rest
front_tick [] rest t l is e = absurd (omega (arith, l))
front_tick (u ∷ ts) rest t l is e = ap (λ (x : Tick). x ∷ ts) (sym is) ∙ ap (λ (xs : List Tick). t ∷ xs) (sym e)

module _ (s : Settings) (now : ℕ) (past after : List KeptPacket) (t : Tick) (ts : List Tick) (aged : AllAged s now (past ++ kept_of t) after) where
  pub given_firsts : (first : ℕ) → TicksEnd (length past) (t ∷ ts) first → TicksEnd (length after) ts first
  given_firsts first e =
      let long = length-aged s now (past ++ kept_of t) after aged ∙ length-append past (kept_of t) in
      subst (λ (n : ℕ). TicksEnd n ts first) (sym long) (rest_firsts (λ (t : Tick). t.first) kept_of (length past) t ts first e)

  pub given_all : (front : List KeptPacket) → AllAged s now (past ++ flat_map kept_of (t ∷ ts) ++ front) (after ++ flat_map kept_of ts ++ front)
  given_all front =
      let rest = flat_map kept_of ts in
      all_aged-append s now (past ++ (kept_of t ++ rest)) (after ++ rest) front front
      (subst (λ (ks : List KeptPacket). AllAged s now ks (after ++ rest)) (append_assoc past (kept_of t) rest)
      (all_aged-append s now (past ++ kept_of t) after rest rest aged (all_aged_self s now rest)))
      (all_aged_self s now front)
