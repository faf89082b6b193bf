-- The packets of a block with one more.
use Rattle.std.proofs.Common.{◌≡◌, ◌≤◌, ℕ, zero, suc, ◌+◌, ◌-◌, Bool, true, false, List, [], ◌∷◌, ◌++◌, length, take, drop, get_or, ◌<◌, refl, sym}
use Rattle.std.proofs.Common.{ap, ◌∙◌, arith, length-drop, length-append, true≢false}
use Rattle.std.proofs.lemmas.Bool.Decides.{nat_tests}
use Rattle.std.specs.Prelude.{◌==◌, ◌&&◌, nat_le, Some, slice_get}
use Rattle.std.proofs.lemmas.List.{drop-append-le, take-append-le}
use Rattle.std.proofs.lemmas.Option.{slice_get-get_or}
use Rattle.std.proofs.Math.Seq.{drop-append_seam, take-length}
use Rattle.world_packets.specs.declared.block.Rec.{Rec}
use Rattle.world_packets.specs.Ends.{ends_at}
use Rattle.world_packets.specs.Blocks.{Frame, frames_from, start_at, end_of}

pub both : (a b : Bool) → (a && b) ≡ true → (a ≡ true) × (b ≡ true)
both true b e = (refl, e)
both false b e = absurd (true≢false (sym e))

pub join : (a b : Bool) → a ≡ true → b ≡ true → (a && b) ≡ true
join true b h e = e
join false b h e = h

pub from_le : (m n : ℕ) → nat_le m n ≡ true → m ≤ n
from_le m n e = grind (arith, nat_tests, e)

pub to_le : (m n : ℕ) → m ≤ n → nat_le m n ≡ true
to_le m n e = grind (arith, nat_tests, e)

pub from_eq : (m n : ℕ) → (m == n) ≡ true → m ≡ n
from_eq m n e = grind (arith, nat_tests, e)

same_eq : (n : ℕ) → (n == n) ≡ true
same_eq n = grind (arith, nat_tests)

-- the end is no lower
below : (at : ℕ) (recs : List Rec) (end : ℕ) → ends_at at recs end ≡ true → at ≤ end
below at [] end e = omega (arith, from_eq at end e)
below at (q ∷ recs) end e = let b = both (nat_le at q.end) (ends_at q.end recs end) e in omega (arith, from_le at q.end b.0, below q.end recs end b.1)

pub one_more_ends : (at : ℕ) (recs : List Rec) (old : ℕ) (r : Rec) → ends_at at recs old ≡ true → old ≤ r.end → ends_at at (recs ++ r ∷ []) r.end ≡ true
one_more_ends at [] old r e h = join (nat_le at r.end) (r.end == r.end) (to_le at r.end (omega (arith, from_eq at old e, h))) (same_eq r.end)
one_more_ends at (q ∷ recs) old r e h = let b = both (nat_le at q.end) (ends_at q.end recs old) e in
    join (nat_le at q.end) (ends_at q.end (recs ++ r ∷ []) r.end) b.0 (one_more_ends q.end recs old r b.1 h)

last_part : (at end : ℕ) (bytes xs : List ℕ) → at ≡ length bytes → end ≡ length bytes + length xs → take (end - at) (drop at (bytes ++ xs)) ≡ xs
last_part at end bytes xs a h =
    ap (λ (k : ℕ). take (end - at) (drop k (bytes ++ xs))) a
    ∙ (ap (λ (ys : List ℕ). take (end - at) ys) (drop-append_seam bytes xs)
    ∙ (ap (λ (k : ℕ). take k xs) (omega (arith, a, h)) ∙ take-length xs))

front_part : (at end : ℕ) (bytes xs : List ℕ) → at ≤ end → end ≤ length bytes → take (end - at) (drop at (bytes ++ xs)) ≡ take (end - at) (drop at bytes)
front_part at end bytes xs a h =
    ap (λ (ys : List ℕ). take (end - at) ys) (drop-append-le at bytes xs (omega (arith, a, h)))
    ∙ take-append-le (end - at) (drop at bytes) xs (omega (arith, a, h, length-drop at bytes))

pub one_more : (at : ℕ) (recs : List Rec) (bytes xs : List ℕ) (r : Rec) → ends_at at recs (length bytes) ≡ true → r.end ≡ length bytes + length xs
    → frames_from at (recs ++ r ∷ []) (bytes ++ xs) ≡ frames_from at recs bytes ++ record { from = r.from; to = r.to; bytes = xs } ∷ []
one_more at [] bytes xs r e h =
    ap (λ (ys : List ℕ). record { from = r.from; to = r.to; bytes = ys } ∷ []) (last_part at r.end bytes xs (from_eq at (length bytes) e) h)
one_more at (q ∷ recs) bytes xs r e h =
    let b = both (nat_le at q.end) (ends_at q.end recs (length bytes)) e in
    let first = front_part at q.end bytes xs (from_le at q.end b.0) (below q.end recs (length bytes) b.1) in
    ap (λ (ys : List ℕ). record { from = q.from; to = q.to; bytes = ys } ∷ frames_from q.end (recs ++ r ∷ []) (bytes ++ xs)) first
    ∙ ap (λ (fs : List Frame). record { from = q.from; to = q.to; bytes = take (q.end - at) (drop at bytes) } ∷ fs) (one_more q.end recs bytes xs r b.1 h)

-- the block after a push
pub pushed_ends : (recs new : List Rec) (bytes xs all : List ℕ) (r : Rec) → ends_at 0 recs (length bytes) ≡ true → new ≡ recs ++ r ∷ []
    → all ≡ bytes ++ xs → r.end ≡ length all → ends_at 0 new (length all) ≡ true
pushed_ends recs new bytes xs all r e n a h =
    let long : length all ≡ length bytes + length xs = ap length a ∙ length-append bytes xs in
    ap (λ (rs : List Rec). ends_at 0 rs (length all)) n
    ∙ (ap (λ (k : ℕ). ends_at 0 (recs ++ r ∷ []) k) (sym h) ∙ one_more_ends 0 recs (length bytes) r e (omega (arith, h, long)))

pub pushed : (recs new : List Rec) (bytes xs all : List ℕ) (r : Rec) → ends_at 0 recs (length bytes) ≡ true → new ≡ recs ++ r ∷ [] → all ≡ bytes ++ xs
    → r.end ≡ length all
    → frames_from 0 new all ≡ frames_from 0 recs bytes ++ record { from = r.from; to = r.to; bytes = xs } ∷ []
pushed recs new bytes xs all r e n a h =
    ap (λ (rs : List Rec). frames_from 0 rs all) n
    ∙ (ap (λ (ys : List ℕ). frames_from 0 (recs ++ r ∷ []) ys) a ∙ one_more 0 recs bytes xs r e (h ∙ (ap length a ∙ length-append bytes xs)))

-- ---- one of the packets

some_rec : (q r : Rec) → Some q ≡ Some r → q ≡ r
some_rec q r e = cc

pub length-frames : (at : ℕ) (recs : List Rec) (bytes : List ℕ) → length (frames_from at recs bytes) ≡ length recs
length-frames at [] bytes = refl
length-frames at (q ∷ recs) bytes = ap suc (length-frames q.end recs bytes)

pub frame_at : (at : ℕ) (recs : List Rec) (bytes : List ℕ) (i : ℕ) (r : Rec) → slice_get recs i ≡ Some r
    → slice_get (frames_from at recs bytes) i ≡ Some
    (record { from = r.from; to = r.to; bytes = take (r.end - start_at at recs i) (drop (start_at at recs i) bytes) })
frame_at at [] bytes i r e = absurd cc
frame_at at (q ∷ recs) bytes zero r e =
    let same : q ≡ r = cc in
    ap (λ (x : Rec). Some (record { from = x.from; to = x.to; bytes = take (x.end - at) (drop at bytes) })) same
frame_at at (q ∷ recs) bytes (suc i) r e = frame_at q.end recs bytes i r e

-- where it begins and ends
pub within_at : (at : ℕ) (recs : List Rec) (end i : ℕ) (r : Rec) → ends_at at recs end ≡ true → slice_get recs i ≡ Some r
    → (start_at at recs i ≤ r.end) × (r.end ≤ end)
within_at at [] end i r e h = absurd cc
within_at at (q ∷ recs) end zero r e h =
    let b = both (nat_le at q.end) (ends_at q.end recs end) e in
    let same : q.end ≡ r.end = ap (λ (x : Rec). x.end) (some_rec q r h) in
    (omega (arith, from_le at q.end b.0, same), omega (arith, below q.end recs end b.1, same))
within_at at (q ∷ recs) end (suc i) r e h = within_at q.end recs end i r (both (nat_le at q.end) (ends_at q.end recs end) e).1 h

-- the one before ends where it begins
pub start_behind : (at : ℕ) (recs : List Rec) (j : ℕ) (r : Rec) → slice_get recs j ≡ Some r → start_at at recs (suc j) ≡ r.end
start_behind at [] j r e = absurd cc
start_behind at (q ∷ []) zero r e = ap (λ (x : Rec). x.end) (some_rec q r e)
start_behind at (q ∷ (p ∷ recs)) zero r e = ap (λ (x : Rec). x.end) (some_rec q r e)
start_behind at (q ∷ recs) (suc j) r e = start_behind q.end recs j r e

-- a record that was read
pub got : (recs : List Rec) (i : ℕ) (r : Rec) → i < length recs → r ≡ get_or recs i r → slice_get recs i ≡ Some r
got recs i r h e = slice_get-get_or recs i r h ∙ ap Some (sym e)

pub end_got : (recs : List Rec) (i : ℕ) (r : Rec) → slice_get recs i ≡ Some r → r.end ≡ end_of recs i
end_got [] i r e = absurd cc
end_got (q ∷ recs) zero r e = ap (λ (x : Rec). x.end) (sym (some_rec q r e))
end_got (q ∷ recs) (suc i) r e = end_got recs i r e

-- where the packet behind another begins
pub start_got : (recs : List Rec) (i : ℕ) (r : Rec) → 0 < i → i < length recs + 1 → r ≡ get_or recs (i - 1) r → r.end ≡ start_at 0 recs i
start_got recs i r some h e =
    let one : suc (i - 1) ≡ i = omega (arith, some) in
    sym (start_behind 0 recs (i - 1) r (got recs (i - 1) r (omega (arith, h, some)) e)) ∙ ap (λ (k : ℕ). start_at 0 recs k) one

-- the packet that a span shows
pub frame_by : (recs : List Rec) (bytes all : List ℕ) (i : ℕ) (r : Rec) (start end : ℕ) → slice_get recs i ≡ Some r → start ≡ start_at 0 recs i
    → end ≡ end_of recs i → all ≡ bytes
    → slice_get (frames_from 0 recs bytes) i ≡ Some (record { from = r.from; to = r.to; bytes = take (end - start) (drop start all) })
frame_by recs bytes all i r start end e a b same =
    let last = b ∙ sym (end_got recs i r e) in
    frame_at 0 recs bytes i r e
    ∙ (ap (λ (k : ℕ). Some (record { from = r.from; to = r.to; bytes = take (r.end - k) (drop k bytes) })) (sym a)
    ∙ (ap (λ (k : ℕ). Some (record { from = r.from; to = r.to; bytes = take (k - start) (drop start bytes) })) (sym last)
    ∙ ap (λ (xs : List ℕ). Some (record { from = r.from; to = r.to; bytes = take (end - start) (drop start xs) })) (sym same)))
