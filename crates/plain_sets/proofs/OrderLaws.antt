-- What is in order, whatever the order in which things come.
use Rattle.std.proofs.Common.{◌≡◌, ◌≢◌, ℕ, Bool, true, false, not, cond, List, [], ◌∷◌, refl, ap, arith, inl, inr}
use Rattle.std.specs.List.{AllByRecursion}
use Rattle.std.specs.List.Sorted.{IsPermutation}
use Rattle.std.proofs.lemmas.Bool.{cond_both, cases_Bool}
use Rattle.std.proofs.lemmas.Bool.Decides.{nat_tests}
use Rattle.std.proofs.lemmas.List.Sorted.{IsPermutation-refl, IsPermutation-cons, IsPermutation-trans, IsPermutation-middle}
use Rattle.plain_sets.specs.Ordered.{is_below, placed, ordered, IsInOrder}

-- a key isn't below itself
pub below_self : (p : ℕ × ℕ) → is_below p p ≡ false
below_self p = numbers p.0 p.1 where
  numbers : (a m : ℕ) → is_below (a, m) (a, m) ≡ false
  numbers a m = grind (arith, nat_tests)

-- of two keys at most one is below the other
below_one_way : (p q : ℕ × ℕ) → is_below p q ≡ true → is_below q p ≡ false
below_one_way p q = numbers p.0 p.1 q.0 q.1 where
  numbers : (a m b n : ℕ) → is_below (a, m) (b, n) ≡ true → is_below (b, n) (a, m) ≡ false
  numbers a m b n h = grind (arith, nat_tests)

-- keys of which neither is below the other are one
pub tied_keys : (p q : ℕ × ℕ) → is_below p q ≡ false → is_below q p ≡ false → p ≡ q
tied_keys p q h k = let e = numbers p.0 p.1 q.0 q.1 h k in λ i. (e.0 i, e.1 i) where
  numbers : (a m b n : ℕ) → is_below (a, m) (b, n) ≡ false → is_below (b, n) (a, m) ≡ false → (a ≡ b) × (m ≡ n)
  numbers a m b n h k = (grind (arith, nat_tests), grind (arith, nat_tests))

-- of two keys that differ one is below the other
pub below_other : (p q : ℕ × ℕ) → p ≢ q → is_below q p ≡ not (is_below p q)
below_other p q ne = choose (is_below p q) refl where
  choose : (b : Bool) → is_below p q ≡ b → is_below q p ≡ not b
  choose true e = below_one_way p q e
  choose false e = elim (cases_Bool (is_below q p)) [ inl f ↦ f | inr f ↦ absurd (ne (tied_keys p q e f)) ]

-- a key not below a third isn't below a key that is
below_later : (p q r : ℕ × ℕ) → is_below p r ≡ true → is_below q r ≡ false → is_below q p ≡ false
below_later p q r = numbers p.0 p.1 q.0 q.1 r.0 r.1 where
  numbers : (a m b n c o : ℕ) → is_below (a, m) (c, o) ≡ true → is_below (b, n) (c, o) ≡ false → is_below (b, n) (a, m) ≡ false
  numbers a m b n c o h k = grind (arith, nat_tests)

-- what is below a key is below those that aren't below it
below_on : (p q r : ℕ × ℕ) → is_below p q ≡ true → is_below r q ≡ false → is_below p r ≡ true
below_on p q r = numbers p.0 p.1 q.0 q.1 r.0 r.1 where
  numbers : (a m b n c o : ℕ) → is_below (a, m) (b, n) ≡ true → is_below (c, o) (b, n) ≡ false → is_below (a, m) (c, o) ≡ true
  numbers a m b n c o h k = grind (arith, nat_tests)

-- two things in either order, by opposite tests
swap_two : {X : Type 0} (p q : Bool) (x y : X) (l : List X) → q ≡ not p → cond p (x ∷ y ∷ l) (y ∷ x ∷ l) ≡ cond q (y ∷ x ∷ l) (x ∷ y ∷ l)
swap_two true q x y l e = rw e refl
swap_two false q x y l e = rw e refl

-- a weaker fact holds of all too
pub all_weaker : {X : Type 0} (P Q : X → Type 0) → ((x : X) → P x → Q x) → (xs : List X) → AllByRecursion P xs → AllByRecursion Q xs
all_weaker P Q weaker [] all = tt
all_weaker P Q weaker (x ∷ xs) all = (weaker x all.0, all_weaker P Q weaker xs all.1)

module _ {X : Type 0} (key : X → ℕ × ℕ) where
  -- of nothing there is nothing in order
  pub ordered-nil : ordered key [] ≡ []
  unfolding ordered
  ordered-nil = refl

  -- the first thing finds its place among the others in order
  pub ordered-cons : (x : X) (xs : List X) → ordered key (x ∷ xs) ≡ placed key x (ordered key xs)
  unfolding ordered
  ordered-cons x xs = refl

  -- two things with different keys find their places in either order
  pub placed_swap : (x y : X) (l : List X) → key x ≢ key y → placed key x (placed key y l) ≡ placed key y (placed key x l)
  placed_swap x y [] ne = swap_two (is_below (key x) (key y)) (is_below (key y) (key x)) x y [] (below_other (key x) (key y) ne)
  placed_swap x y (z ∷ zs) ne =
      elim (is_below (key x) (key z)) as
      (λ p. is_below (key x) (key z) ≡ p → placed key x (placed key y (z ∷ zs)) ≡ placed key y (cond p (x ∷ z ∷ zs) (z ∷ placed key x zs))) [
        | true ↦ λ xz. elim (is_below (key y) (key z)) as
            (λ q. is_below (key y) (key z) ≡ q → placed key x (cond q (y ∷ z ∷ zs) (z ∷ placed key y zs)) ≡ placed key y (x ∷ z ∷ zs)) [
              | true ↦ λ yz. rw (xz, yz) (swap_two (is_below (key x) (key y)) (is_below (key y) (key x)) x y (z ∷ zs) (below_other (key x) (key y) ne))
              | false ↦ λ yz. rw (xz, yz, below_later (key x) (key y) (key z) xz yz) refl
            ] refl
        | false ↦ λ xz. elim (is_below (key y) (key z)) as
            (λ q. is_below (key y) (key z) ≡ q → placed key x (cond q (y ∷ z ∷ zs) (z ∷ placed key y zs)) ≡ placed key y (z ∷ placed key x zs)) [
              | true ↦ λ yz. rw (xz, yz, below_later (key y) (key x) (key z) yz xz) refl
              | false ↦ λ yz. rw (xz, yz) (ap (λ ys. z ∷ ys) (placed_swap x y zs ne))
            ] refl
      ] refl

  -- what holds of x and of the others holds of them with x in its place
  pub placed-all : (P : X → Type 0) (x : X) (ys : List X) → P x → AllByRecursion P ys → AllByRecursion P (placed key x ys)
  placed-all P x [] p all = (p, tt)
  placed-all P x (y ∷ ys) p all = cond_both (is_below (key x) (key y)) _ _ (AllByRecursion P) (λ _. (p, all)) (λ _. (all.0, placed-all P x ys p all.1))

  -- what holds of all holds of them in order
  pub ordered-all : (P : X → Type 0) (xs : List X) → AllByRecursion P xs → AllByRecursion P (ordered key xs)
  unfolding ordered
  ordered-all P [] all = tt
  ordered-all P (x ∷ xs) all = placed-all P x (ordered key xs) all.0 (ordered-all P xs all.1)

  -- x goes in front of those that it is below
  pub front : (x : X) (ys : List X) → AllByRecursion (λ y. is_below (key x) (key y) ≡ true) ys → placed key x ys ≡ x ∷ ys
  front x [] all = refl
  front x (y ∷ ys) all = rw all.0 refl

  -- what is below the first of things in order is below them all
  pub above_all : (x y : X) (ys : List X) → is_below (key x) (key y) ≡ true → AllByRecursion (λ z. is_below (key z) (key y) ≡ false) ys
      → AllByRecursion (λ z. is_below (key x) (key z) ≡ true) ys
  above_all x y ys h all =
      all_weaker (λ z. is_below (key z) (key y) ≡ false) (λ z. is_below (key x) (key z) ≡ true) (λ z. below_on (key x) (key y) (key z) h) ys all

  -- with a thing in its place things are in order
  pub sorted-placed : (x : X) (ys : List X) → IsInOrder key ys → IsInOrder key (placed key x ys)
  sorted-placed x [] up = (tt, tt)
  sorted-placed x (y ∷ ys) up =
      cond_both (is_below (key x) (key y)) _ _ (IsInOrder key)
      (λ e. (
        (
          below_one_way (key x) (key y) e,
          all_weaker (λ z. is_below (key x) (key z) ≡ true) (λ z. is_below (key z) (key x) ≡ false)
              (λ z. below_one_way (key x) (key z)) ys (above_all x y ys e up.0),
        ),
        up,
      ))
      (λ e. (placed-all (λ z. is_below (key z) (key y) ≡ false) x ys e up.0, sorted-placed x ys up.1))

  -- the things in order are in order
  pub sorted-ordered : (xs : List X) → IsInOrder key (ordered key xs)
  unfolding ordered
  sorted-ordered [] = tt
  sorted-ordered (x ∷ xs) = sorted-placed x (ordered key xs) (sorted-ordered xs)

  -- and it is one thing more
  permutation-placed : (x : X) (ys : List X) → IsPermutation (x ∷ ys) (placed key x ys)
  permutation-placed x [] = IsPermutation-refl (x ∷ [])
  permutation-placed x (y ∷ ys) =
      cond_both (is_below (key x) (key y)) _ _ (IsPermutation (x ∷ y ∷ ys))
      (λ _. IsPermutation-refl (x ∷ y ∷ ys))
      (λ _. IsPermutation-trans (x ∷ y ∷ ys) (y ∷ x ∷ ys) (y ∷ placed key x ys) (IsPermutation-middle (x ∷ []) y ys)
      (IsPermutation-cons y (x ∷ ys) (placed key x ys) (permutation-placed x ys)))

  -- and they are the same things
  pub permutation-ordered : (xs : List X) → IsPermutation xs (ordered key xs)
  unfolding ordered
  permutation-ordered [] = IsPermutation-refl []
  permutation-ordered (x ∷ xs) =
      IsPermutation-trans (x ∷ xs) (x ∷ ordered key xs) (placed key x (ordered key xs))
      (IsPermutation-cons x xs (ordered key xs) (permutation-ordered xs)) (permutation-placed x (ordered key xs))
