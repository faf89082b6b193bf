-- Packets that lie in several parts, one part behind the other.
use Rattle.std.proofs.Common.{◌≡◌, ◌<◌, ◌≤◌, ℕ, zero, suc, ◌+◌, ◌-◌, true, false, List, [], ◌∷◌, ◌++◌, length, length-append, get_or, refl, sym, ap}
use Rattle.std.proofs.Common.{◌∙◌, subst, arith}
use Rattle.std.specs.Prelude.{◌==◌, nat_le, slice_get}
use Rattle.std.specs.List.{flat_map, AllWithin}
use Rattle.std.specs.List.Sorted.{IsPartitionedBy}
use Rattle.std.proofs.lemmas.Bool.Decides.{nat_tests}
use Rattle.std.proofs.lemmas.List.{get_or_default}
use Rattle.world_packets.specs.Kept.{KeptPacket}
use Rattle.world_packets.specs.Firsts.{firsts_at, IsIn}
use Rattle.world_packets.proofs.Frames.{both, join, from_le, to_le, from_eq}

to_eq : (m n : ℕ) → m ≡ n → (m == n) ≡ true
to_eq m n e = grind (arith, nat_tests, e)

from_gt : (m n : ℕ) → nat_le m n ≡ false → n < m
from_gt m n e = grind (arith, nat_tests, e)

-- ---- elements of lists

pub get-left : {A : Type 0} (xs ys : List A) (i : ℕ) → i < length xs → slice_get (xs ++ ys) i ≡ slice_get xs i
get-left [] ys i h = absurd (omega (arith, h))
get-left (x ∷ xs) ys zero h = refl
get-left (x ∷ xs) ys (suc i) h = get-left xs ys i (omega (arith, h))

pub get-right : {A : Type 0} (xs ys : List A) (i j : ℕ) → j ≡ length xs + i → slice_get (xs ++ ys) j ≡ slice_get ys i
get-right [] ys i j e = ap (λ (k : ℕ). slice_get ys k) (omega (arith, e))
get-right (x ∷ xs) ys i zero e = absurd (omega (arith, e))
get-right (x ∷ xs) ys i (suc j) e = get-right xs ys i j (omega (arith, e))

-- ---- the parts

module _ {T : Type 0} (first : T → ℕ) (kept : T → List KeptPacket) where
  -- what is known of the first part and of those behind it
  head_first : (n : ℕ) (t : T) (ts : List T) (end : ℕ) → firsts_at first kept n (t ∷ ts) end ≡ true → first t ≡ n
  head_first n t ts end e = from_eq (first t) n (both (first t == n) (firsts_at first kept (n + length (kept t)) ts end) e).0

  pub rest_firsts : (n : ℕ) (t : T) (ts : List T) (end : ℕ) → firsts_at first kept n (t ∷ ts) end ≡ true
      → firsts_at first kept (n + length (kept t)) ts end ≡ true
  rest_firsts n t ts end e = (both (first t == n) (firsts_at first kept (n + length (kept t)) ts end) e).1

  pub firsts_end : (n : ℕ) (ts : List T) (end : ℕ) → firsts_at first kept n ts end ≡ true → n + length (flat_map kept ts) ≡ end
  firsts_end n [] end e = omega (arith, from_eq n end e)
  firsts_end n (t ∷ ts) end e =
      let rest = firsts_end (n + length (kept t)) ts end (rest_firsts n t ts end e) in
      let two = length-append (kept t) (flat_map kept ts) in
      omega (arith, rest, two)

  pub firsts_push : (n : ℕ) (ts : List T) (end later : ℕ) (t : T) → firsts_at first kept n ts end ≡ true → first t ≡ end
      → later ≡ end + length (kept t) → firsts_at first kept n (ts ++ t ∷ []) later ≡ true
  firsts_push n [] end later t e f h =
      let same = from_eq n end e in
      join (first t == n) (n + length (kept t) == later) (to_eq (first t) n (omega (arith, f, same)))
      (to_eq (n + length (kept t)) later (omega (arith, h, same)))
  firsts_push n (u ∷ ts) end later t e f h =
      let b = both (first u == n) (firsts_at first kept (n + length (kept u)) ts end) e in
      join (first u == n) (firsts_at first kept (n + length (kept u)) (ts ++ t ∷ []) later) b.0 (firsts_push (n + length (kept u)) ts end later t b.1 f h)

  -- ---- the search

  no_less : (n : ℕ) (ts : List T) (end i : ℕ) (d : T) → firsts_at first kept n ts end ≡ true → i < length ts → n ≤ first (get_or ts i d)
  no_less n [] end i d e h = absurd (omega (arith, h))
  no_less n (t ∷ ts) end zero d e h = omega (arith, head_first n t ts end e)
  no_less n (t ∷ ts) end (suc i) d e h =
      let rest = no_less (n + length (kept t)) ts end i d (rest_firsts n t ts end e) (omega (arith, h)) in omega (arith, rest)

  rises : (n : ℕ) (ts : List T) (end i j : ℕ) (d : T) → firsts_at first kept n ts end ≡ true → i ≤ j → j < length ts
      → first (get_or ts i d) ≤ first (get_or ts j d)
  rises n [] end i j d e le h = absurd (omega (arith, h))
  rises n (t ∷ ts) end zero j d e le h = let least = no_less n (t ∷ ts) end j d e h in omega (arith, least, head_first n t ts end e)
  rises n (t ∷ ts) end (suc i) zero d e le h = absurd (omega (arith, le))
  rises n (t ∷ ts) end (suc i) (suc j) d e le h = rises (n + length (kept t)) ts end i j d (rest_firsts n t ts end e) (omega (arith, le)) (omega (arith, h))

  pub parted : (m n : ℕ) (ts : List T) (end : ℕ) → firsts_at first kept m ts end ≡ true → IsPartitionedBy (λ (t : T). nat_le (first t) n) ts
  parted m n ts end e i j d le h below =
      let up = rises m ts end i j d e le h in
      to_le (first (get_or ts i d)) n (omega (arith, up, from_le (first (get_or ts j d)) n below))

  -- before the place of the search there is a part
  pub some_before : (m n : ℕ) (ts : List T) (end i : ℕ) → firsts_at first kept m ts end ≡ true → m ≤ n → n < end
      → AllWithin (λ (t : T). nat_le (first t) n ≡ false) ts i (length ts) → 0 < i
  some_before m n [] end i e from to right = absurd (omega (arith, from_eq m end e, from, to))
  some_before m n (t ∷ ts) end zero e from to right =
      absurd (omega (arith, from_gt (first t) n (right 0 t (omega arith) (omega arith)), head_first m t ts end e, from))
  some_before m n (t ∷ ts) end (suc i) e from to right = omega arith

  -- the last of these has the packet
  pub is_in : (m n : ℕ) (ts : List T) (end i : ℕ) (t : T) → firsts_at first kept m ts end ≡ true → m ≤ n → n < end → i ≤ length ts
      → AllWithin (λ (t : T). nat_le (first t) n ≡ true) ts 0 i
      → AllWithin (λ (t : T). nat_le (first t) n ≡ false) ts i (length ts) → t ≡ get_or ts (i - 1) t → IsIn first kept ts m n t
  is_in m n [] end i t e from to l left right is = absurd (omega (arith, from_eq m end e, from, to))
  is_in m n (u ∷ ts) end zero t e from to l left right is = absurd (omega (arith, some_before m n (u ∷ ts) end zero e from to right))
  is_in m n (u ∷ ts) end (suc zero) t e from to l left right is =
      let at = head_first m u ts end e in
      let here = last_of ts (rest_firsts m u ts end e) (λ k d a b. right (suc k) d (omega (arith, a)) (omega (arith, b))) in
      subst (IsIn first kept (u ∷ ts) m n) (sym is) (record {
        from = omega (arith, at, from);
        place = omega (arith, at, from, here);
        same = ap (λ (k : ℕ). slice_get (kept u ++ flat_map kept ts) k) (omega (arith, at)) ∙ get-left (kept u) (flat_map kept ts) (n - first u)
            (omega (arith, at, from, here));
      }) where
        last_of : (us : List T) → firsts_at first kept (m + length (kept u)) us end ≡ true
            → AllWithin (λ (t : T). nat_le (first t) n ≡ false) us 0 (length us) → n < m + length (kept u)
        last_of [] b none = omega (arith, from_eq (m + length (kept u)) end b, to)
        last_of (v ∷ us) b none = omega (arith, head_first (m + length (kept u)) v us end b, from_gt (first v) n (none 0 v (omega arith) (omega arith)))
  is_in m n (u ∷ []) end (suc (suc i)) t e from to l left right is = absurd (omega (arith, l))
  is_in m n (u ∷ (v ∷ ts)) end (suc (suc i)) t e from to l left right is =
      let b = rest_firsts m u (v ∷ ts) end e in
      let next = head_first (m + length (kept u)) v ts end b in
      let two : suc (suc i) - 1 ≡ suc i = omega arith in
      let one : i ≡ suc i - 1 = omega arith in
      let later : m + length (kept u) ≤ n = omega (arith, next, from_le (first v) n (left 1 v (omega arith) (omega arith))) in
      let rest = is_in (m + length (kept u)) n (v ∷ ts) end (suc i) t b later to (omega (arith, l)) (λ k d a c. left (suc k) d (omega arith) (omega (arith, c)))
      (λ k d a c. right (suc k) d (omega (arith, a)) (omega (arith, c)))
      (is ∙ ap (λ (k : ℕ). get_or (u ∷ (v ∷ ts)) k t) two ∙ ap (λ (k : ℕ). get_or (v ∷ ts) k t) one) in
      record {
        from = rest.from;
        place = rest.place;
        same = get-right (kept u) (flat_map kept (v ∷ ts)) (n - (m + length (kept u))) (n - m) (omega (arith, later)) ∙ rest.same;
      }

  -- there is a part
  pub has_some : (m n : ℕ) (ts : List T) (end : ℕ) → firsts_at first kept m ts end ≡ true → m ≤ n → n < end → 0 < length ts
  has_some m n ts end e from to = some_before m n ts end (length ts) e from to (λ k d a b. absurd (omega (arith, a, b)))

  -- the last part has the packet if it begins no later
  pub in_last : (m n : ℕ) (ts : List T) (end i : ℕ) (t : T) → firsts_at first kept m ts end ≡ true → m ≤ n → n < end → i + 1 ≡ length ts
      → t ≡ get_or ts i t → first t ≤ n → IsIn first kept ts m n t
  in_last m n ts end i t e from to at is below =
      let place : i ≡ length ts - 1 = omega (arith, at) in
      is_in m n ts end (length ts) t e from to (omega arith)
      (λ k d a b.
      let up = rises m ts end k i d e (omega (arith, b, at)) (omega (arith, at)) in
      let same : get_or ts i d ≡ t = get_or_default ts i d t (omega (arith, at)) ∙ sym is in
      to_le (first (get_or ts k d)) n (omega (arith, up, ap first same, below)))
      (λ k d a b. absurd (omega (arith, a, b)))
      (is ∙ ap (λ (k : ℕ). get_or ts k t) place)
