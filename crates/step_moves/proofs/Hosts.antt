-- Lists of hosts of which one is set, and calls that are told apart.
use Rattle.std.proofs.Common.{◌≡◌, ℕ, zero, suc, ◌<◌, true, false, Some, None, List, [], ◌∷◌, length, refl, sym, ap, ◌∙◌, arith}
use Rattle.std.specs.Prelude.{slice_get, slice_set}
use Rattle.std.proofs.lemmas.Bool.{true≢false, false_from_ne_true, eq-eqb}
use Rattle.homa_plain.specs.declared.id.CallId.{CallId}
use Rattle.homa_plain.specs.declared.id.HostId.{HostId}
use Rattle.homa_plain.specs.Calls.{is_host, is_call}
use Rattle.homa_plain.specs.Host.{Host}
use Rattle.homa_plain.proofs.CallOrder.{calls_are, hosts_are}
use Rattle.step_moves.specs.Worlds.{at_host}

-- the host that is set
pub there : {A : Type 0} (xs : List A) (i : ℕ) (x : A) → i < length xs → slice_get (slice_set xs i x) i ≡ Some x
there [] i x l = absurd (omega (arith, l))
there (y ∷ xs) zero x l = refl
there (y ∷ xs) (suc i) x l = there xs i x (omega (arith, l))

-- the others
pub elsewhere : {A : Type 0} (xs : List A) (i n : ℕ) (x : A) → (n ≡ i → ⊥) → slice_get (slice_set xs i x) n ≡ slice_get xs n
elsewhere [] i n x e = refl
elsewhere (y ∷ xs) zero zero x e = absurd (e refl)
elsewhere (y ∷ xs) zero (suc n) x e = refl
elsewhere (y ∷ xs) (suc i) zero x e = refl
elsewhere (y ∷ xs) (suc i) (suc n) x e = elsewhere xs i n x (λ k. e (ap suc k))

-- what each host has of something, where one is x and was y
pub both_set : {A : Type 0} (none : A) (f : Host → A) (hs : List Host) (i n : ℕ) (x y : Host) → f x ≡ f y
    → at_host none f (slice_get (slice_set hs i x) n) ≡ at_host none f (slice_get (slice_set hs i y) n)
both_set none f [] i n x y e = refl
both_set none f (z ∷ hs) zero zero x y e = e
both_set none f (z ∷ hs) zero (suc n) x y e = refl
both_set none f (z ∷ hs) (suc i) zero x y e = refl
both_set none f (z ∷ hs) (suc i) (suc n) x y e = both_set none f hs i n x y e

pub length-set : {A : Type 0} (xs : List A) (i : ℕ) (x : A) → length (slice_set xs i x) ≡ length xs
length-set [] i x = refl
length-set (y ∷ xs) zero x = refl
length-set (y ∷ xs) (suc i) x = ap suc (length-set xs i x)

-- where there is one, its number is below that of all
pub within : {A : Type 0} (xs : List A) (i : ℕ) (x : A) → slice_get xs i ≡ Some x → i < length xs
within [] i x e = cc
within (y ∷ xs) zero x e = omega arith
within (y ∷ xs) (suc i) x e = omega (arith, within xs i x e)

pub some_is : {A : Type 0} (x y : A) → Some x ≡ Some y → x ≡ y
some_is x y e = cc

pub none_some : {A : Type 0} (x : A) → None ≡ Some x → ⊥
none_some x e = cc

-- ---- tests that say no, turned round

pub turned : (a b : CallId) → is_call a b ≡ false → is_call b a ≡ false
turned a b e = false_from_ne_true (is_call b a) (λ t. true≢false (sym ((calls_are a b).1 (sym ((calls_are b a).0 t))) ∙ e))

pub apart : (a b : HostId) → is_host a b ≡ false → b.0 ≡ a.0 → ⊥
apart a b e same = true≢false (sym (eq-eqb a.0 b.0 (sym same)) ∙ e)

pub number_of : (a b : HostId) → is_host a b ≡ true → a.0 ≡ b.0
number_of a b e = ap (λ (x : HostId). x.0) ((hosts_are a b).0 e)
