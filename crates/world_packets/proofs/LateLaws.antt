-- Packets of a few ticks that are late for good.
use Rattle.std.proofs.Common.{◌≡◌, ◌<◌, ◌≤◌, ℕ, zero, suc, ◌+◌, ◌-◌, Some, List, [], ◌∷◌, ◌++◌, length, length-append, append_assoc, get_or, drop}
use Rattle.std.proofs.Common.{drop-cons, refl, sym, ap, ◌∙◌, arith}
use Rattle.std.specs.Prelude.{replicate, slice_get}
use Rattle.std.proofs.lemmas.List.{length-replicate}
use Rattle.world_packets.specs.declared.late_ticks.Later.{Later}
use Rattle.world_packets.specs.Kept.{KeptPacket, LatePacket}
use Rattle.world_packets.specs.Later.{last_tick, later_kept, late_kept}
use Rattle.world_packets.proofs.Parts.{get-left, get-right}

-- ---- one tick more

pub last_more : (tick : ℕ) (ls : List Later) (l : Later) → last_tick tick (ls ++ l ∷ []) ≡ last_tick tick ls + l.gap
last_more tick [] l = refl
last_more tick (k ∷ ls) l = last_more (tick + k.gap) ls l

later_more : (tick : ℕ) (ls : List Later) (l : Later) → later_kept tick (ls ++ l ∷ []) ≡ later_kept tick ls
    ++ replicate l.count (LatePacket (last_tick tick ls + l.gap))
later_more tick [] l = no_more (replicate l.count (LatePacket (tick + l.gap))) where
  no_more : {A : Type 0} (xs : List A) → xs ++ [] ≡ xs
  no_more [] = refl
  no_more (x ∷ xs) = ap (λ ys. x ∷ ys) (no_more xs)
later_more tick (k ∷ ls) l =
    ap (λ (xs : List KeptPacket). replicate k.count (LatePacket (tick + k.gap)) ++ xs) (later_more (tick + k.gap) ls l)
    ∙ sym (append_assoc (replicate k.count (LatePacket (tick + k.gap))) (later_kept (tick + k.gap) ls)
    (replicate l.count (LatePacket (last_tick tick (k ∷ ls) + l.gap))))

pub late_more : (tick many : ℕ) (ls : List Later) (l : Later) (now count : ℕ) → last_tick tick ls + l.gap ≡ now → l.count ≡ count
    → late_kept tick many (ls ++ l ∷ []) ≡ late_kept tick many ls ++ replicate count (LatePacket now)
late_more tick many ls l now count e h =
    ap (λ (xs : List KeptPacket). replicate many (LatePacket tick) ++ xs) (later_more tick ls l)
    ∙ sym (append_assoc (replicate many (LatePacket tick)) (later_kept tick ls) (replicate l.count (LatePacket (last_tick tick ls + l.gap))))
    ∙ ap (λ (t : ℕ). late_kept tick many ls ++ replicate l.count (LatePacket t)) e
    ∙ ap (λ (k : ℕ). late_kept tick many ls ++ replicate k (LatePacket now)) h

pub length-late_more : (tick many : ℕ) (ls : List Later) (l : Later) → length (late_kept tick many (ls ++ l ∷ [])) ≡ length (late_kept tick many ls) + l.count
length-late_more tick many ls l =
    ap length (late_more tick many ls l (last_tick tick ls + l.gap) l.count refl refl)
    ∙ length-append (late_kept tick many ls) (replicate l.count (LatePacket (last_tick tick ls + l.gap)))
    ∙ ap (λ (k : ℕ). length (late_kept tick many ls) + k) (length-replicate l.count (LatePacket (last_tick tick ls + l.gap)))

-- ---- the tick of a packet

pub get-same : {A : Type 0} (n i : ℕ) (x : A) → i < n → slice_get (replicate n x) i ≡ Some x
get-same zero i x h = absurd (omega (arith, h))
get-same (suc n) zero x h = refl
get-same (suc n) (suc i) x h = get-same n i x (omega (arith, h))

-- where `left` of these packets stand before it, it is one of `all`
pub record IsLeft (all : List KeptPacket) (i tick : ℕ) (ls : List Later) (left : ℕ) : Type 0 where
  pub place : left < length (later_kept tick ls)
  pub same : slice_get all i ≡ slice_get (later_kept tick ls) left

pub first_tick : (tick many : ℕ) (ls : List Later) (i : ℕ) → i < many → slice_get (late_kept tick many ls) i ≡ Some (LatePacket tick)
first_tick tick many ls i h =
    let long = length-replicate many (LatePacket tick) in
    get-left (replicate many (LatePacket tick)) (later_kept tick ls) i (omega (arith, h, long)) ∙ get-same many i (LatePacket tick) h

pub left_first : (tick many : ℕ) (ls : List Later) (i : ℕ) → many ≤ i → i < length (late_kept tick many ls)
    → IsLeft (late_kept tick many ls) i tick ls (i - many)
left_first tick many ls i h l =
    let long = length-replicate many (LatePacket tick) in
    let two = length-append (replicate many (LatePacket tick)) (later_kept tick ls) in
    record {
      place = omega (arith, h, l, long, two);
      same = get-right (replicate many (LatePacket tick)) (later_kept tick ls) (i - many) i (omega (arith, h, long));
    }

module _ (all : List KeptPacket) (i tick : ℕ) (l : Later) (ls : List Later) (left : ℕ) (h : IsLeft all i tick (l ∷ ls) left) where
  pub is_here : left < l.count → slice_get all i ≡ Some (LatePacket (tick + l.gap))
  is_here k =
      let long = length-replicate l.count (LatePacket (tick + l.gap)) in
      h.same ∙ get-left (replicate l.count (LatePacket (tick + l.gap))) (later_kept (tick + l.gap) ls) left (omega (arith, k, long))
      ∙ get-same l.count left (LatePacket (tick + l.gap)) k

  pub left_next : l.count ≤ left → IsLeft all i (tick + l.gap) ls (left - l.count)
  left_next k =
      let long = length-replicate l.count (LatePacket (tick + l.gap)) in
      let two = length-append (replicate l.count (LatePacket (tick + l.gap))) (later_kept (tick + l.gap) ls) in
      record {
        place = omega (arith, h.place, long, two, k);
        same = h.same ∙ get-right (replicate l.count (LatePacket (tick + l.gap))) (later_kept (tick + l.gap) ls) (left - l.count) left (omega (arith, k, long));
      }

-- a tick is at most the last one
pub no_later : (tick : ℕ) (ls : List Later) → tick ≤ last_tick tick ls
no_later tick [] = omega arith
no_later tick (l ∷ ls) = let rest = no_later (tick + l.gap) ls in omega (arith, rest)

-- the ticks from this place on
pub next_tick : (ls : List Later) (k : ℕ) (d : Later) → k < length ls → drop k ls ≡ get_or ls k d ∷ drop (k + 1) ls
next_tick ls k d h = let next : suc k ≡ k + 1 = omega arith in drop-cons ls k d h ∙ ap (λ (n : ℕ). get_or ls k d ∷ drop n ls) next
