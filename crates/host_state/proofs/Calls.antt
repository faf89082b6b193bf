-- Facts of each element of a list, after a read, a write, or a piece.
use Rattle.std.proofs.Common.{◌≡◌, ◌<◌, ℕ, zero, suc, List, [], ◌∷◌, ◌++◌, length, refl, arith}
use Rattle.std.specs.Prelude.{slice_set, slice_index_or, drop}
use Rattle.std.specs.List.{AllByRecursion}
use Rattle.homa_plain.specs.Wire.{IsCall}

pub all-set : {X : Type 0} (P : X → Type 0) (xs : List X) (i : ℕ) (x : X) → P x → AllByRecursion P xs → AllByRecursion P (slice_set xs i x)
all-set P [] i x p all = tt
all-set P (y ∷ ys) zero x p all = (p, all.1)
all-set P (y ∷ ys) (suc i) x p all = (all.0, all-set P ys i x p all.1)

pub all-at : {X : Type 0} (P : X → Type 0) (xs : List X) (i : ℕ) (d : X) → P d → AllByRecursion P xs → P (slice_index_or xs i d)
all-at P [] i d p all = p
all-at P (y ∷ ys) zero d p all = all.0
all-at P (y ∷ ys) (suc i) d p all = all-at P ys i d p all.1

pub all-joined : {X : Type 0} (P : X → Type 0) (xs : List X) (x : X) → P x → AllByRecursion P xs → AllByRecursion P (xs ++ x ∷ [])
all-joined P [] x p all = (p, tt)
all-joined P (y ∷ ys) x p all = (all.0, all-joined P ys x p all.1)

pub all-rest : {X : Type 0} (P : X → Type 0) (n : ℕ) (xs : List X) → AllByRecursion P xs → AllByRecursion P (drop n xs)
all-rest P zero xs all = all
all-rest P (suc n) [] all = tt
all-rest P (suc n) (x ∷ xs) all = all-rest P n xs all.1

-- the finished calls of a peer with one more
pub calls-joined : (book : List (List (ℕ × ℕ))) (peer : ℕ) (call : ℕ × ℕ) → IsCall call → AllByRecursion (AllByRecursion IsCall) book
    → AllByRecursion IsCall (slice_index_or book peer [] ++ call ∷ [])
calls-joined book peer call is all = all-joined IsCall (slice_index_or book peer []) call is (all-at (AllByRecursion IsCall) book peer [] tt all)

-- a list begins with its first
pub first-rest : {X : Type 0} (xs : List X) (d : X) → 0 < length xs → xs ≡ slice_index_or xs 0 d ∷ drop 1 xs
first-rest [] d some = absurd (omega (arith, some))
first-rest (x ∷ xs) d some = refl
