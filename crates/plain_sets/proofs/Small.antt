-- Small facts on tests that the lemmas share.
use Rattle.std.proofs.Common.{◌≡◌, Bool, true, false, ◌&&◌, T, Some, None, List, [], ◌∷◌, refl}
use Rattle.std.specs.List.{AllByRecursion, filter}
use Rattle.std.proofs.lemmas.Bool.{cond_both}
use Rattle.std.specs.declared.cmp.Ordering.{Ordering}
use Rattle.std.specs.declared.cmp.Ordering.TheVariants.{Less, Equal, Greater}
use Rattle.std.specs.Ordering.{is_eq, is_lt}

-- two tests that hold, hold together
pub both : (a b : Bool) → T a → T b → T (a && b)
both true b p q = q
both false b p q = p

-- the first of two tests that hold together
pub first : (a b : Bool) → T (a && b) → T a
first true b p = tt
first false b p = p

-- and the second
pub second : (a b : Bool) → T (a && b) → T b
second true b p = p
second false b p = absurd p

-- a test that holds is true
pub is_true : (b : Bool) → T b → b ≡ true
is_true true h = refl
is_true false h = absurd h

-- what the tests of an ordering say
pub less : (r : Ordering) → T (is_lt r) → r ≡ Less
less Less p = refl
less Equal p = absurd p
less Greater p = absurd p

-- what the test of a tie says
pub equal : (r : Ordering) → is_eq r ≡ true → r ≡ Equal
equal Less e = cc
equal Equal e = refl
equal Greater e = cc

-- nothing is no value
pub none_some : {A : Type 0} {x : A} → None ≡ Some x → ⊥
none_some e = cc

-- what passes a test is as the test says
pub passes : {X : Type 0} (P : X → Type 0) (p : X → Bool) → ((x : X) → p x ≡ true → P x) → (xs : List X) → AllByRecursion P (filter p xs)
passes P p holds [] = tt
passes P p holds (x ∷ xs) = cond_both (p x) _ _ (AllByRecursion P) (λ e. (holds x e, passes P p holds xs)) (λ _. passes P p holds xs)
