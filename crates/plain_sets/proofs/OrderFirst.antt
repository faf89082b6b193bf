-- The first of the things in order, and the others.
use Rattle.std.proofs.Common.{◌≡◌, ℕ, true, false, not, List, [], ◌∷◌, sym, ap, subst, ◌∙◌, inl, inr}
use Rattle.std.specs.Option.{MatchOption}
use Rattle.std.specs.List.{AllByRecursion, Contains}
use Rattle.std.specs.List.Sorted.{IsPermutation}
use Rattle.std.proofs.lemmas.List.{nil_from_length}
use Rattle.std.proofs.lemmas.List.Sorted.{IsPermutation-sym, Contains-permutation, length_permutation}
use Rattle.plain_sets.specs.Ordered.{is_below, ordered, IsInOrder, IsLeast, DiffersFrom, KeysDiffer, first_of}
use Rattle.plain_sets.proofs.OrderLaws.{below_self, below_other, ordered-cons, ordered-all, front, sorted-ordered, permutation-ordered}
use Rattle.plain_sets.proofs.OrderSame.{here, there, at_head, all_at, differ-permuted, ordered-permuted}

-- what holds of each element holds of all
pub all_from : {X : Type 0} (P : X → Type 0) (xs : List X) → ((x : X) → Contains xs x → P x) → AllByRecursion P xs
all_from P [] h = tt
all_from P (x ∷ xs) h = (h x (here x xs), all_from P xs (λ y c. h y (there x y xs c)))

-- two facts of all give a third of all
both_all : {X : Type 0} (P Q R : X → Type 0) → ((x : X) → P x → Q x → R x) → (xs : List X) → AllByRecursion P xs → AllByRecursion Q xs → AllByRecursion R xs
both_all P Q R h [] p q = tt
both_all P Q R h (x ∷ xs) p q = (h x p.0 q.0, both_all P Q R h xs p.1 q.1)

module _ {X : Type 0} (key : X → ℕ × ℕ) where
  -- the first of things in order is the least of them
  first_sorted : (xs ys : List X) → IsPermutation xs ys → IsInOrder key ys → MatchOption (first_of ys) (xs ≡ []) (IsLeast key xs)
  first_sorted xs [] same up = nil_from_length xs (sym (length_permutation xs [] same))
  first_sorted xs (y ∷ ys) same up = (
    Contains-permutation (y ∷ ys) xs y (IsPermutation-sym xs (y ∷ ys) same) (here y ys),
    all_from (λ z. is_below (key z) (key y) ≡ false) xs (λ z c. elim (at_head y z ys (Contains-permutation xs (y ∷ ys) z same c)) [
      | inl e ↦ subst (λ (w : X). is_below (key w) (key y) ≡ false) e (below_self (key y))
      | inr rest ↦ all_at (λ w. is_below (key w) (key y) ≡ false) ys z up.0 rest
    ]),
  )

  -- the first of the things in order is one of them that none is below
  pub first-ordered : (xs : List X) → MatchOption (first_of (ordered key xs)) (xs ≡ []) (IsLeast key xs)
  first-ordered xs = first_sorted xs (ordered key xs) (permutation-ordered key xs) (sorted-ordered key xs)

  -- a thing that none of the others is below comes before them
  pub ordered-least : (x : X) (ys : List X) → AllByRecursion (λ y. is_below (key y) (key x) ≡ false) ys → DiffersFrom key x ys
      → ordered key (x ∷ ys) ≡ x ∷ ordered key ys
  ordered-least x ys least differ =
      ordered-cons key x ys ∙ front key x (ordered key ys) (ordered-all key (λ y. is_below (key x) (key y) ≡ true) ys
      (both_all (λ y. is_below (key y) (key x) ≡ false) (λ y. key x ≡ key y → ⊥) (λ y. is_below (key x) (key y) ≡ true)
      (λ y h ne. below_other (key y) (key x) (λ e. ne (sym e)) ∙ ap not h) ys least differ))

  -- also where it is taken out of their middle
  pub ordered-taken : (xs ys : List X) (x : X) → IsPermutation xs (x ∷ ys) → KeysDiffer key xs
      → AllByRecursion (λ y. is_below (key y) (key x) ≡ false) ys → ordered key xs ≡ x ∷ ordered key ys
  ordered-taken xs ys x same differ least =
      ordered-permuted key xs (x ∷ ys) same differ ∙ ordered-least x ys least (differ-permuted key xs (x ∷ ys) same differ).0
