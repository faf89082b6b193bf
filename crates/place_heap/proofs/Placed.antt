-- Items in order, whatever order they came in.
use Rattle.std.proofs.Common.{◌≡◌, ◌≢◌, ℕ, zero, suc, ◌<◌, ◌≤◌, true, false, List, [], ◌∷◌, length, take, set, Some, None, refl, sym, ap, subst, ◌∙◌, arith}
use Rattle.std.specs.Prelude.{if◌then◌else◌}
use Rattle.place_heap.specs.Order.{Item, is_before, placed, ordered, without, key_in}
use Rattle.place_heap.specs.Held.{at}
use Rattle.place_heap.proofs.Before.{either, test_same, test_other, order, same_item}

-- an item that is before the first goes in front
pub goes_first : (x y : Item) (ys : List Item) → is_before x y ≡ true → placed x (y ∷ ys) ≡ x ∷ y ∷ ys
goes_first x y ys e = ap (λ t. if t then x ∷ y ∷ ys else y ∷ placed x ys) e

-- another goes on
pub goes_on : (x y : Item) (ys : List Item) → is_before x y ≡ false → placed x (y ∷ ys) ≡ y ∷ placed x ys
goes_on x y ys e = ap (λ t. if t then x ∷ y ∷ ys else y ∷ placed x ys) e

-- two items of which neither is before the other may stand either way
same_front : (x y : Item) (ys : List Item) → is_before x y ≡ false → is_before y x ≡ false → y ∷ x ∷ ys ≡ x ∷ y ∷ ys
same_front x y ys l r = let e = same_item x y l r in let e' = sym e in (λ i. e' i ∷ e i ∷ ys)

-- the order in which two items are placed does not matter
pub placed_swap : (x y : Item) (zs : List Item) → placed x (placed y zs) ≡ placed y (placed x zs)
placed_swap x y [] =
    either (is_before x y)
    (λ xy. goes_first x y [] xy ∙ sym (goes_on y x [] (order.one_way x y xy)))
    (λ nxy. either (is_before y x)
    (λ yx. goes_on x y [] nxy ∙ sym (goes_first y x [] yx))
    (λ nyx. goes_on x y [] nxy ∙ same_front x y [] nxy nyx ∙ sym (goes_on y x [] nyx)))
placed_swap x y (z ∷ zs) =
    either (is_before y z)
    (λ yz. ap (placed x) (goes_first y z zs yz) ∙ either (is_before x z)
    (λ xz. either (is_before x y)
    (λ xy. goes_first x y (z ∷ zs) xy
    ∙ sym (ap (placed y) (goes_first x z zs xz) ∙ goes_on y x (z ∷ zs) (order.one_way x y xy) ∙ ap (λ l. x ∷ l) (goes_first y z zs yz)))
    (λ nxy. goes_on x y (z ∷ zs) nxy ∙ ap (λ l. y ∷ l) (goes_first x z zs xz) ∙ either (is_before y x)
    (λ yx. sym (ap (placed y) (goes_first x z zs xz) ∙ goes_first y x (z ∷ zs) yx))
    (λ nyx. same_front x y (z ∷ zs) nxy nyx ∙ sym (ap (placed y) (goes_first x z zs xz) ∙ goes_on y x (z ∷ zs) nyx ∙ ap (λ l. x ∷ l) (goes_first y z zs yz)))))
    (λ nxz. goes_on x y (z ∷ zs) (order.chain x z y nxz (order.one_way y z yz)) ∙ ap (λ l. y ∷ l) (goes_on x z zs nxz)
    ∙ sym (ap (placed y) (goes_on x z zs nxz) ∙ goes_first y z (placed x zs) yz)))
    (λ nyz. ap (placed x) (goes_on y z zs nyz) ∙ either (is_before x z)
    (λ xz. goes_first x z (placed y zs) xz
    ∙ sym (ap (placed y) (goes_first x z zs xz) ∙ goes_on y x (z ∷ zs) (order.chain y z x nyz (order.one_way x z xz)) ∙ ap (λ l. x ∷ l) (goes_on y z zs nyz)))
    (λ nxz. goes_on x z (placed y zs) nxz ∙ ap (λ l. z ∷ l) (placed_swap x y zs) ∙ sym (ap (placed y) (goes_on x z zs nxz) ∙ goes_on y z (placed x zs) nyz)))

-- an item is exchanged for another
pub ordered_set : (xs : List Item) (i : ℕ) (y : Item) → i < length xs → placed (at xs i) (ordered (set xs i y)) ≡ placed y (ordered xs)
ordered_set [] i y inside = absurd (omega arith)
ordered_set (x ∷ xs) zero y inside = placed_swap x y (ordered xs)
ordered_set (x ∷ xs) (suc i) y inside =
    placed_swap (at xs i) x (ordered (set xs i y)) ∙ ap (placed x) (ordered_set xs i y (omega arith)) ∙ placed_swap x y (ordered xs)

-- two items change places
pub ordered_swap : (xs : List Item) (i j : ℕ) → i < j → j < length xs → ordered (set (set xs j (at xs i)) i (at xs j)) ≡ ordered xs
ordered_swap [] i j less inside = absurd (omega arith)
ordered_swap (x ∷ xs) i zero less inside = absurd (omega arith)
ordered_swap (x ∷ xs) zero (suc j) less inside = ordered_set xs j x (omega arith)
ordered_swap (x ∷ xs) (suc i) (suc j) less inside = ap (placed x) (ordered_swap xs i j (omega arith) (omega arith))

-- one item more
pub ordered_more : (xs : List Item) (n : ℕ) → n < length xs → ordered (take (suc n) xs) ≡ placed (at xs n) (ordered (take n xs))
ordered_more [] n inside = absurd (omega arith)
ordered_more (x ∷ xs) zero inside = refl
ordered_more (x ∷ xs) (suc n) inside = ap (placed x) (ordered_more xs n (omega arith)) ∙ placed_swap x (at xs n) (ordered (take n xs))

module _ (P : Item → Type 0) where
  -- it holds of each item
  abbrev pub Each : List Item → Type 0
  Each [] = Unit {0}
  Each (x ∷ xs) = P x × Each xs

  -- it holds of all with one more
  pub each_placed : (x : Item) (ys : List Item) → P x → Each ys → Each (placed x ys)
  each_placed x [] here all = (here, tt)
  each_placed x (y ∷ ys) here all =
      either (is_before x y) (λ e. subst Each (sym (goes_first x y ys e)) (here, all))
      (λ e. subst Each (sym (goes_on x y ys e)) (all.0, each_placed x ys here all.1))

  -- it holds in order too
  pub each_ordered : (xs : List Item) → Each xs → Each (ordered xs)
  each_ordered [] all = tt
  each_ordered (x ∷ xs) all = each_placed x (ordered xs) all.0 (each_ordered xs all.1)

  -- from its places
  pub each_at : (xs : List Item) → ((i : ℕ) → i < length xs → P (at xs i)) → Each xs
  each_at [] all = tt
  each_at (x ∷ xs) all = (all 0 (omega arith), each_at xs (λ i inside. all (suc i) (omega arith)))

  -- the same of the first n
  pub each_take : (xs : List Item) (n : ℕ) → n ≤ length xs → ((i : ℕ) → i < n → P (at xs i)) → Each (take n xs)
  each_take xs zero fits all = tt
  each_take [] (suc n) fits all = tt
  each_take (x ∷ xs) (suc n) fits all = (all 0 (omega arith), each_take xs n (omega arith) (λ i inside. all (suc i) (omega arith)))

  -- what is left but the item at i is in order, that item fits there, and any other that takes its place
  pub record Rest (xs : List Item) (i : ℕ) : Type 0 where
    pub items : List Item
    pub whole : ordered xs ≡ placed (at xs i) items
    pub changed : (y : Item) → ordered (set xs i y) ≡ placed y items
    pub each : Each items

  -- there is such a rest
  pub rest_of : (xs : List Item) (i : ℕ) → i < length xs → ((k : ℕ) → k < length xs → k ≢ i → P (at xs k)) → Rest xs i
  rest_of [] i inside all = absurd (omega arith)
  rest_of (x ∷ xs) zero inside all = record {
    items = ordered xs;
    whole = refl;
    changed = λ y. refl;
    each = each_ordered xs (each_at xs (λ k below. all (suc k) (omega arith) (omega arith)));
  }
  rest_of (x ∷ xs) (suc i) inside all =
      let rest = rest_of xs i (omega arith) (λ k below ne. all (suc k) (omega arith) (omega arith)) in record {
        items = placed x rest.items;
        whole = ap (placed x) rest.whole ∙ placed_swap x (at xs i) rest.items;
        changed = λ y. ap (placed x) (rest.changed y) ∙ placed_swap x y rest.items;
        each = each_placed x rest.items (all 0 (omega arith) (omega arith)) rest.each;
      }

-- items of other slots than this
abbrev pub Others : ℕ → List Item → Type 0
Others slot = Each (λ x. x.0 ≢ slot)

-- nothing is taken out where there is no such slot
pub without_others : (slot : ℕ) (xs : List Item) → Others slot xs → without slot xs ≡ xs
without_others slot [] all = refl
without_others slot (x ∷ xs) all =
    ap (λ t. if t then without slot xs else x ∷ without slot xs) (test_other x.0 slot all.0) ∙ ap (λ l. x ∷ l) (without_others slot xs all.1)

-- the one item of a slot is taken out
pub without_placed : (x : Item) (ys : List Item) → Others x.0 ys → without x.0 (placed x ys) ≡ ys
without_placed x [] all = ap (λ t. if t then [] else x ∷ []) (test_same x.0 x.0 refl)
without_placed x (y ∷ ys) all =
    either (is_before x y)
    (λ e. ap (without x.0) (goes_first x y ys e) ∙ ap (λ t. if t then without x.0 (y ∷ ys) else x ∷ without x.0 (y ∷ ys)) (test_same x.0 x.0 refl)
    ∙ without_others x.0 (y ∷ ys) all)
    (λ e. ap (without x.0) (goes_on x y ys e) ∙ ap (λ t. if t then without x.0 (placed x ys) else y ∷ without x.0 (placed x ys)) (test_other y.0 x.0 all.0)
    ∙ ap (λ l. y ∷ l) (without_placed x ys all.1))

-- a slot that has no item has no key
pub no_key : (slot : ℕ) (xs : List Item) → Others slot xs → key_in slot xs ≡ None
no_key slot [] all = refl
no_key slot (x ∷ xs) all = ap (λ t. if t then Some x.1 else key_in slot xs) (test_other x.0 slot all.0) ∙ no_key slot xs all.1

-- the key of an item is that of its slot
pub key_placed : (x : Item) (ys : List Item) → Others x.0 ys → key_in x.0 (placed x ys) ≡ Some x.1
key_placed x [] all = ap (λ t. if t then Some x.1 else None) (test_same x.0 x.0 refl)
key_placed x (y ∷ ys) all =
    either (is_before x y)
    (λ e. ap (key_in x.0) (goes_first x y ys e) ∙ ap (λ t. if t then Some x.1 else key_in x.0 (y ∷ ys)) (test_same x.0 x.0 refl))
    (λ e. ap (key_in x.0) (goes_on x y ys e) ∙ ap (λ t. if t then Some y.1 else key_in x.0 (placed x ys)) (test_other y.0 x.0 all.0) ∙ key_placed x ys all.1)

-- an item that none is before is the first
pub least_first : (x : Item) (ys : List Item) → Each (λ y. is_before y x ≡ false) ys → placed x ys ≡ x ∷ ys
least_first x [] all = refl
least_first x (y ∷ ys) all =
    either (is_before x y) (λ e. goes_first x y ys e)
    (λ e. goes_on x y ys e ∙ ap (λ l. y ∷ l) (least_first x ys all.1) ∙ same_front x y ys e all.0)
