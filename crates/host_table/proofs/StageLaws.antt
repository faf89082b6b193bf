-- A host that is read and written at its place.
use Rattle.std.proofs.Common.{◌≡◌, ◌<◌, ℕ, zero, suc, Option, Some, None, List, [], ◌∷◌, length, get_or, refl, sym, ap, subst, ◌∙◌, Bool, true, false}
use Rattle.std.proofs.Common.{true≢false, ◌↔◌}
use Rattle.std.specs.Prelude.{IfSome, IfErr, OnOk, OnErr, IsErr, is_err, Result, Ok, Err, map, slice_get, slice_set}
use Rattle.std.proofs.lemmas.Option.{slice_get_read}
use Rattle.host_view.specs.Seen.{Seen}
use Rattle.host_table.specs.Restarted.{IsAny}
use Rattle.host_table.specs.Staged.{known}

-- what is so of a thing that was read is so of what stands at its place
pub at_read : {A : Type 0} (P : A → Type 0) (xs : List A) (i : ℕ) (x : A) → i < length xs → x ≡ get_or xs i x → P x → IfSome (slice_get xs i) P
at_read P xs i x within is p = subst (λ o. IfSome o P) (sym (slice_get_read xs (length xs) i x refl within is)) p

pub of_read : {A : Type 0} (P : A → Type 0) (xs : List A) (i : ℕ) (x : A) → i < length xs → x ≡ get_or xs i x → IfSome (slice_get xs i) P → P x
of_read P xs i x within is p = subst (λ o. IfSome o P) (slice_get_read xs (length xs) i x refl within is) p

some_is : {A : Type 0} (x y : A) → Some x ≡ Some y → x ≡ y
some_is x y e = cc

-- a thing that is seen as it was
pub map-set_same : {A B : Type 0} (f : A → B) (xs : List A) (i : ℕ) (x y : A) → slice_get xs i ≡ Some x → f y ≡ f x → map f (slice_set xs i y) ≡ map f xs
map-set_same f [] i x y at same = refl
map-set_same f (z ∷ xs) zero x y at same = ap (λ w. w ∷ map f xs) (same ∙ sym (ap f (some_is z x at)))
map-set_same f (z ∷ xs) (suc i) x y at same = ap (λ ws. f z ∷ ws) (map-set_same f xs i x y at same)

pub still : (xs : List Seen) (i : ℕ) (x y : Seen) → i < length xs → x ≡ get_or xs i x → y ≡ record x { marks = [] }
    → map known (slice_set xs i y) ≡ map known xs
still xs i x y within is e = map-set_same known xs i x y (slice_get_read xs (length xs) i x refl within is) (ap known e)

-- ---- results

-- what is so where there was no error
pub where_ok : {T E : Type 0} (P : Type 0) (r : Result T E) (b : Bool) → b ≡ is_err r → b ≡ false → OnOk r P → P
where_ok P (Ok x) b is e p = p
where_ok P (Err x) b is e p = absurd (true≢false (sym is ∙ e))

-- and where there was one
pub where_err : {T E : Type 0} (P : Type 0) (r : Result T E) (b : Bool) → b ≡ is_err r → b ≡ true → OnErr r P → P
where_err P (Ok x) b is e p = absurd (true≢false (sym e ∙ is))
where_err P (Err x) b is e p = p

-- some are left where that was no cause of an error
pub any_left : {T E A : Type 0} (r : Result T E) (b : Bool) (xs : List A) → b ≡ is_err r → b ≡ false → IsErr r ↔ (xs ≡ []) → IsAny xs
any_left r b [] is e none = absurd (true≢false (sym (none.1 refl) ∙ sym is ∙ e))
any_left r b (x ∷ xs) is e none = tt

pub both_ok : {T E : Type 0} (P Q : Type 0) (r : Result T E) → OnOk r P → OnOk r Q → OnOk r (P × Q)
both_ok P Q (Ok x) p q = (p, q)
both_ok P Q (Err e) p q = tt

pub if_err_weaker : {T E : Type 0} (P Q : E → Type 0) (r : Result T E) → ((e : E) → P e → Q e) → IfErr r P → IfErr r Q
if_err_weaker P Q (Ok x) f p = tt
if_err_weaker P Q (Err e) f p = f e p

pub on_err_weaker : {T E : Type 0} (P Q : Type 0) (r : Result T E) → (P → Q) → OnErr r P → OnErr r Q
on_err_weaker P Q (Ok x) f p = tt
on_err_weaker P Q (Err e) f p = f p

pub both_err : {T E : Type 0} (P Q : Type 0) (r : Result T E) → OnErr r P → OnErr r Q → OnErr r (P × Q)
both_err P Q (Ok x) p q = tt
both_err P Q (Err e) p q = (p, q)

pub set_twice : {A : Type 0} (xs : List A) (i : ℕ) (x y : A) → slice_set (slice_set xs i x) i y ≡ slice_set xs i y
set_twice [] i x y = refl
set_twice (z ∷ xs) zero x y = refl
set_twice (z ∷ xs) (suc i) x y = ap (λ ws. z ∷ ws) (set_twice xs i x y)

-- a place that was emptied is filled again
pub reset : {A : Type 0} (old lent new : List (Option A)) (i : ℕ) (x : A) → lent ≡ slice_set old i None → new ≡ slice_set lent i (Some x)
    → new ≡ slice_set old i (Some x)
reset old lent new i x e f = f ∙ ap (λ xs. slice_set xs i (Some x)) e ∙ set_twice old i None (Some x)

pub map_at : {A B : Type 0} (f : A → B) (xs : List A) (i : ℕ) (x : A) → slice_get xs i ≡ Some x → slice_get (map f xs) i ≡ Some (f x)
map_at f [] i x e = absurd (no e) where
  no : {A : Type 0} {x : A} → None ≡ Some x → ⊥
  no e = cc
map_at f (y ∷ xs) zero x e = ap Some (ap f (some_is y x e))
map_at f (y ∷ xs) (suc i) x e = map_at f xs i x e
