-- Hosts with their own names, and a box for each of them.
use Rattle.std.proofs.Common.{◌≡◌, ℕ, zero, suc, ◌+◌, ◌-◌, ◌<◌, Option, Some, None, List, [], ◌∷◌, length, refl, ap, subst, ◌∙◌, arith}
use Rattle.std.specs.Prelude.{map, slice_set, slice_get}
use Rattle.std.specs.Option.{option_map}
use Rattle.homa_plain.specs.Host.{Host}
use Rattle.homa_service.specs.Table.{place_of, last_of}
use Rattle.step_moves.specs.Worlds.{HasOwnName}

-- the hosts from number n on have their own names
abbrev pub AllNamed : ℕ → List Host → Type 0
AllNamed n [] = Unit {0}
AllNamed n (h ∷ hs) = HasOwnName (record { 0 = n }) h × AllNamed (suc n) hs

pub named : (n : ℕ) (hs : List Host) (i : ℕ) (h : Host) → AllNamed n hs → slice_get hs i ≡ Some h → HasOwnName (record { 0 = n + i }) h
named n [] i h all e = absurd (let no : None ≡ Some h = e in cc)
named n (g ∷ hs) zero h all e =
    subst (λ k. HasOwnName (record { 0 = k }) h) (omega arith) (subst (λ x. HasOwnName (record { 0 = n }) x) (let same : g ≡ h = cc in same) all.0)
named n (g ∷ hs) (suc i) h all e = subst (λ k. HasOwnName (record { 0 = k }) h) (omega arith) (named (suc n) hs i h all.1 e)

pub named_set : (n : ℕ) (hs : List Host) (i : ℕ) (h : Host) → AllNamed n hs → HasOwnName (record { 0 = n + i }) h → AllNamed n (slice_set hs i h)
named_set n [] i h all new = tt
named_set n (g ∷ hs) zero h all new = (subst (λ k. HasOwnName (record { 0 = k }) h) (omega arith) new, all.1)
named_set n (g ∷ hs) (suc i) h all new = (all.0, named_set (suc n) hs i h all.1 (subst (λ k. HasOwnName (record { 0 = k }) h) (omega arith) new))

module _ {B : Type 0} where
  -- no place is empty
  abbrev pub AllFull : List (Option B) → Type 0
  AllFull [] = Unit {0}
  AllFull (None ∷ xs) = ⊥
  AllFull (Some x ∷ xs) = AllFull xs

  -- what is in a place
  pub record In (xs : List (Option B)) (i : ℕ) : Type 0 where
    pub box : B
    pub is : place_of xs i ≡ Some box

  pub full : (xs : List (Option B)) (i : ℕ) → AllFull xs → i < length xs → In xs i
  full [] i all within = absurd (omega (arith, within))
  full (None ∷ xs) i all within = absurd all
  full (Some x ∷ xs) zero all within = record { box = x; is = refl }
  full (Some x ∷ xs) (suc i) all within = let r = full xs i all (omega (arith, within)) in record { box = r.box; is = r.is }

  pub full_set : (xs : List (Option B)) (i : ℕ) (x : B) → AllFull xs → AllFull (slice_set xs i (Some x))
  full_set [] i x all = tt
  full_set (None ∷ xs) i x all = absurd all
  full_set (Some y ∷ xs) zero x all = all
  full_set (Some y ∷ xs) (suc i) x all = full_set xs i x all

  -- a box that is changed where it is
  pub full_change : (f : B → B) (xs : List (Option B)) (i : ℕ) → AllFull xs → AllFull (slice_set xs i (option_map f (place_of xs i)))
  full_change f [] i all = tt
  full_change f (None ∷ xs) i all = absurd all
  full_change f (Some y ∷ xs) zero all = all
  full_change f (Some y ∷ xs) (suc i) all = full_change f xs i all

  pub full_map : {A : Type 0} (f : A → B) (xs : List A) → AllFull (map (λ a. Some (f a)) xs)
  full_map f [] = tt
  full_map f (x ∷ xs) = full_map f xs

  -- the last of these
  pub record Last (xs : List B) : Type 0 where
    pub box : B
    pub is : last_of xs ≡ Some box

  last_at : (xs : List B) (k : ℕ) → length xs ≡ suc k → (x : B) × (slice_get xs k ≡ Some x)
  last_at [] k e = absurd (omega (arith, e))
  last_at (x ∷ xs) zero e = (x, refl)
  last_at (x ∷ xs) (suc k) e = last_at xs k (omega (arith, e))

  pub last : (xs : List B) (k : ℕ) → length xs ≡ suc k → Last xs
  last xs k e = let r = last_at xs k e in record { box = r.0; is = ap (λ n. slice_get xs n) (let f : length xs - 1 ≡ k = omega (arith, e) in f) ∙ r.1 }
