-- The list of a heap as a list of things of one's own, each of which stands for an item.
use Rattle.std.proofs.Common.{◌≡◌, ◌≢◌, ℕ, Bool, true, false, not, ◌&&◌, ◌||◌, cond, List, [], ◌∷◌, map, refl, sym, ap, subst, ◌∙◌, arith}
use Rattle.std.specs.Prelude.{◌==◌, nat_lt}
use Rattle.std.specs.List.{AllByRecursion, filter}
use Rattle.std.specs.Ordering.{nat_cmp, ordering_then, is_lt}
use Rattle.std.proofs.lemmas.Bool.{cond_both}
use Rattle.std.proofs.lemmas.Bool.Decides.{nat_tests}
use Rattle.plain_sets.specs.Ordered as plain
use Rattle.plain_sets.specs.Ordered.{is_below, IsInOrder, DiffersFrom, KeysDiffer, SendersDiffer}
use Rattle.plain_sets.proofs.OrderLaws.{all_weaker, placed-all}
use Rattle.plain_sets.proofs.OrderSame.{filter-all}
use Rattle.place_heap.specs.Order as heap
use Rattle.place_heap.specs.Order.{Item, is_before}

-- of two keys that differ slots don't decide
numbers_below : (a m s b n t : ℕ) → (a ≡ b → m ≡ n → ⊥)
    → is_lt (ordering_then (nat_cmp a b) (ordering_then (nat_cmp m n) (nat_cmp s t))) ≡ (nat_lt a b || (a == b && nat_lt m n))
numbers_below a m s b n t ne = grind (arith, nat_tests)

-- an item stands before one of another key exactly where its key is below
before_below : (x y : Item) → (x.1.first ≡ y.1.first → x.1.second ≡ y.1.second → ⊥) → is_before x y ≡ is_below (x.1.first, x.1.second) (y.1.first, y.1.second)
unfolding is_before
before_below x y ne = numbers_below x.1.first x.1.second x.0 y.1.first y.1.second y.0 ne

-- a map of a choice
map-cond : {X Y : Type 0} (f : X → Y) (b : Bool) (xs ys : List X) → map f (cond b xs ys) ≡ cond b (map f xs) (map f ys)
map-cond f true xs ys = refl
map-cond f false xs ys = refl

-- what is left without a slot is of others
pub others-left : {X : Type 0} (slot : X → ℕ) (s : ℕ) (xs : List X) → AllByRecursion (λ t. slot t ≢ s) (filter (λ t. not (slot t == s)) xs)
others-left slot s [] = tt
others-left slot s (x ∷ xs) =
    cond_both (not (slot x == s)) _ _ (AllByRecursion (λ t. slot t ≢ s))
    (λ e. ((λ is. let yes : (slot x == s) ≡ true = grind (arith, nat_tests) in cc (e, yes)), others-left slot s xs))
    (λ _. others-left slot s xs)

-- an order that no other slot has none of the others have
pub free-others : {X : Type 0} (slot order : X → ℕ) (s o : ℕ) (xs : List X) → AllByRecursion (λ t. order t ≡ o → slot t ≡ s) xs
    → AllByRecursion (λ t. order t ≢ o) (filter (λ t. not (slot t == s)) xs)
free-others slot order s o [] all = tt
free-others slot order s o (x ∷ xs) all =
    cond_both (not (slot x == s)) _ _ (AllByRecursion (λ t. order t ≢ o))
    (λ e. ((λ is. let same = all.0 is in let yes : (slot x == s) ≡ true = grind (arith, nat_tests) in cc (e, yes)), free-others slot order s o xs all.1))
    (λ _. free-others slot order s o xs all.1)

-- a key whose second number none of the others has is none of theirs
pub key-differs : {X : Type 0} (key : X → ℕ × ℕ) (x : X) (ys : List X) → AllByRecursion (λ y. (key y).1 ≢ (key x).1) ys → DiffersFrom key x ys
key-differs key x = all_weaker (λ y. (key y).1 ≢ (key x).1) (λ y. key x ≢ key y) (λ y n e. n (sym (ap (λ (k : ℕ × ℕ). k.1) e)))

module _ {X : Type 0} (item : X → Item) where
  -- the key of a thing is that of its item
  abbrev pub item_key : X → ℕ × ℕ
  item_key t = ((item t).1.first, (item t).1.second)

  -- a thing in its place, whose key none of the others has
  pub placed-items : (t : X) (ts : List X) → DiffersFrom item_key t ts → heap.placed (item t) (map item ts) ≡ map item (plain.placed item_key t ts)
  placed-items t [] differ = refl
  placed-items t (u ∷ us) differ =
      let below = before_below (item t) (item u) (λ a m. differ.0 (λ i. (a i, m i))) in
      (λ i. cond (below i) (item t ∷ item u ∷ map item us) (item u ∷ placed-items t us differ.1 i))
      ∙ sym (map-cond item (is_below (item_key t) (item_key u)) (t ∷ u ∷ us) (u ∷ plain.placed item_key t us))

  -- the things but that of a slot
  pub without-items : (s : ℕ) (ts : List X) → heap.without s (map item ts) ≡ map item (filter (λ t. not ((item t).0 == s)) ts)
  without-items s [] = refl
  without-items s (u ∷ us) =
      turned ((item u).0 == s) (item u) (heap.without s (map item us)) (map item (filter (λ t. not ((item t).0 == s)) us)) (without-items s us)
      ∙ sym (map-cond item (not ((item u).0 == s)) (u ∷ filter (λ t. not ((item t).0 == s)) us) (filter (λ t. not ((item t).0 == s)) us)) where
        turned : (b : Bool) (x : Item) (xs ys : List Item) → xs ≡ ys → cond b xs (x ∷ xs) ≡ cond (not b) (x ∷ ys) ys
        turned true x xs ys e = e
        turned false x xs ys e = ap (λ l. x ∷ l) e

  -- things that are read back from their items
  module _ (of : Item → X) (items : (x : Item) → item (of x) ≡ x) where
    -- the items, read and put back
    pub items-back : (xs : List Item) → xs ≡ map item (map of xs)
    items-back [] = refl
    items-back (x ∷ xs) = λ i. sym (items x) i ∷ items-back xs i

    module _ (things : (t : X) → of (item t) ≡ t) where
      -- the things, put and read back
      things-back : (ts : List X) → map of (map item ts) ≡ ts
      things-back [] = refl
      things-back (t ∷ ts) = λ i. things t i ∷ things-back ts i

      -- the items but that of a slot, as things
      pub without-things : (s : ℕ) (ys : List Item) → map of (heap.without s ys) ≡ filter (λ t. not ((item t).0 == s)) (map of ys)
      without-things s ys =
          ap (λ l. map of (heap.without s l)) (items-back ys) ∙ ap (map of) (without-items s (map of ys))
          ∙ things-back (filter (λ t. not ((item t).0 == s)) (map of ys))

      -- with an item in its place, where only its slot may have its order
      pub entered-things : (x : Item) (ys : List Item) → AllByRecursion (λ t. (item t).1.second ≡ x.1.second → (item t).0 ≡ x.0) (map of ys)
          → map of (heap.placed x (heap.without x.0 ys)) ≡ plain.placed item_key (of x) (filter (λ t. not ((item t).0 == x.0)) (map of ys))
      entered-things x ys own =
          let rest : List X = filter (λ t. not ((item t).0 == x.0)) (map of ys) in
          let others : AllByRecursion (λ t. (item t).1.second ≢ x.1.second) rest =
          free-others (λ t. (item t).0) (λ t. (item t).1.second) x.0 x.1.second (map of ys) own in
          let differ : DiffersFrom item_key (of x) rest =
          key-differs item_key (of x) rest (subst (λ y. AllByRecursion (λ t. (item t).1.second ≢ y.1.second) rest) (sym (items x)) others) in
          ap (λ l. map of (heap.placed x (heap.without x.0 l))) (items-back ys)
          ∙ ap (λ l. map of (heap.placed x l)) (without-items x.0 (map of ys))
          ∙ ap (λ y. map of (heap.placed y (map item rest))) (sym (items x))
          ∙ ap (map of) (placed-items (of x) rest differ)
          ∙ things-back (plain.placed item_key (of x) rest)

-- things that pass a test stay in order
pub filter-in_order : {X : Type 0} (key : X → ℕ × ℕ) (p : X → Bool) (xs : List X) → IsInOrder key xs → IsInOrder key (filter p xs)
filter-in_order key p [] up = tt
filter-in_order key p (x ∷ xs) up =
    cond_both (p x) _ _ (IsInOrder key) (λ _. (filter-all (λ y. is_below (key y) (key x) ≡ false) p xs up.0, filter-in_order key p xs up.1))
    (λ _. filter-in_order key p xs up.1)

-- things that pass a test differ where all did
pub filter-differ : {X : Type 0} (number : X → ℕ) (p : X → Bool) (xs : List X) → SendersDiffer number xs → SendersDiffer number (filter p xs)
filter-differ number p [] differ = tt
filter-differ number p (x ∷ xs) differ =
    cond_both (p x) _ _ (SendersDiffer number) (λ _. (filter-all (λ y. number x ≢ number y) p xs differ.0, filter-differ number p xs differ.1))
    (λ _. filter-differ number p xs differ.1)

-- with a thing in its place that differs from the others all differ
pub placed-differ : {X : Type 0} (number : X → ℕ) (key : X → ℕ × ℕ) (x : X) (ys : List X) → AllByRecursion (λ y. number y ≢ number x) ys
    → SendersDiffer number ys → SendersDiffer number (plain.placed key x ys)
placed-differ number key x [] ne differ = (tt, tt)
placed-differ number key x (y ∷ ys) ne differ =
    cond_both (is_below (key x) (key y)) _ _ (SendersDiffer number)
    (λ _. (all_weaker (λ z. number z ≢ number x) (λ z. number x ≢ number z) (λ z n e. n (sym e)) (y ∷ ys) ne, differ))
    (λ _. (placed-all key (λ z. number y ≢ number z) x ys ne.0 differ.0, placed-differ number key x ys ne.1 differ.1))

-- keys differ where their second numbers do
pub keys-differ : {X : Type 0} (key : X → ℕ × ℕ) (xs : List X) → SendersDiffer (λ x. (key x).1) xs → KeysDiffer key xs
keys-differ key [] differ = tt
keys-differ key (x ∷ xs) differ =
    (all_weaker (λ y. (key x).1 ≢ (key y).1) (λ y. key x ≢ key y) (λ y n e. n (ap (λ (k : ℕ × ℕ). k.1) e)) xs differ.0, keys-differ key xs differ.1)
