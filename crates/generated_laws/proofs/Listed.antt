-- Elements of lists that are set, mapped and joined.
use Rattle.std.proofs.Common.{◌≡◌, ℕ, zero, suc, ◌<◌, Some, None, List, [], ◌∷◌, ◌++◌, length, refl, ap, subst, arith}
use Rattle.std.specs.Prelude.{slice_get, slice_set, slice_index_or, map, replicate}
use Rattle.std.specs.List.{AllByRecursion}

-- an element that is set, or another
pub set_at : {A : Type 0} (P : A → Type 0) (xs : List A) (i n : ℕ) (x d : A) → (n ≡ i → P x) → P (slice_index_or xs n d)
    → P (slice_index_or (slice_set xs i x) n d)
set_at P [] i n x d here old = old
set_at P (y ∷ xs) zero zero x d here old = here refl
set_at P (y ∷ xs) zero (suc n) x d here old = old
set_at P (y ∷ xs) (suc i) zero x d here old = old
set_at P (y ∷ xs) (suc i) (suc n) x d here old = set_at P xs i n x d (λ e. here (ap suc e)) old

pub set_here : {A : Type 0} (xs : List A) (i : ℕ) (x d : A) → i < length xs → slice_index_or (slice_set xs i x) i d ≡ x
set_here [] i x d l = absurd (omega (arith, l))
set_here (y ∷ xs) zero x d l = refl
set_here (y ∷ xs) (suc i) x d l = set_here xs i x d (omega (arith, l))

-- each is mapped to one of which this is so
pub map_at : {A : Type 0} (P Q : A → Type 0) (f : A → A) (xs : List A) (n : ℕ) (d : A) → ((x : A) → P x → Q (f x)) → Q d → P (slice_index_or xs n d)
    → Q (slice_index_or (map f xs) n d)
map_at P Q f [] n d onto none old = none
map_at P Q f (x ∷ xs) zero d onto none old = onto x old
map_at P Q f (x ∷ xs) (suc n) d onto none old = map_at P Q f xs n d onto none old

pub replicated : {A : Type 0} (k n : ℕ) (x : A) → slice_index_or (replicate k x) n x ≡ x
replicated zero n x = refl
replicated (suc k) zero x = refl
replicated (suc k) (suc n) x = replicated k n x

pub there_is : {A : Type 0} (xs : List A) (i : ℕ) → i < length xs → (x : A) × (slice_get xs i ≡ Some x)
there_is [] i l = absurd (omega (arith, l))
there_is (x ∷ xs) zero l = (x, refl)
there_is (x ∷ xs) (suc i) l = there_is xs i (omega (arith, l))

pub get_front : {A : Type 0} (xs ys : List A) (i : ℕ) (x : A) → slice_get xs i ≡ Some x → slice_get (xs ++ ys) i ≡ Some x
get_front [] ys i x e = cc
get_front (y ∷ xs) ys zero x e = e
get_front (y ∷ xs) ys (suc i) x e = get_front xs ys i x e

pub get_seam : {A : Type 0} (xs : List A) (x : A) (ys : List A) → slice_get (xs ++ x ∷ ys) (length xs) ≡ Some x
get_seam [] x ys = refl
get_seam (y ∷ xs) x ys = get_seam xs x ys

pub all_get : {A : Type 0} (P : A → Type 0) (xs : List A) (i : ℕ) (x : A) → AllByRecursion P xs → slice_get xs i ≡ Some x → P x
all_get P [] i x all e = absurd (let f : None ≡ Some x = e in cc)
all_get P (y ∷ xs) zero x all e = subst P (let f : Some y ≡ Some x = e in cc) all.0
all_get P (y ∷ xs) (suc i) x all e = all_get P xs i x all.1 e
