-- What a caller may want to know of the words of the contracts: the keys of a list over its changes.
use Rattle.std.proofs.Common.{◌≡◌, ◌≢◌, ℕ, true, false, List, [], ◌∷◌, Some, None, refl, sym, ap, subst, ◌∙◌, arith}
use Rattle.std.proofs.lemmas.Bool.Decides.{nat_tests}
use Rattle.std.specs.Prelude.{if◌then◌else◌, ◌==◌}
use Rattle.place_heap.specs.Order.{Item, is_before, placed, ordered, without, key_in}
use Rattle.place_heap.proofs.Before.{either, test_same, test_other, order}
use Rattle.place_heap.proofs.Placed.{goes_first, goes_on, Each, each_placed}

-- the first item has the slot
here_key : (slot : ℕ) (x : Item) (xs : List Item) → x.0 ≡ slot → key_in slot (x ∷ xs) ≡ Some x.1
here_key slot x xs e = ap (λ t. if t then Some x.1 else key_in slot xs) (test_same x.0 slot e)

-- the first item has another slot
on_key : (slot : ℕ) (x : Item) (xs : List Item) → x.0 ≢ slot → key_in slot (x ∷ xs) ≡ key_in slot xs
on_key slot x xs ne = ap (λ t. if t then Some x.1 else key_in slot xs) (test_other x.0 slot ne)

-- a slot with no key is not that of the first item, and has none in the rest
no_key_rest : (slot : ℕ) (x : Item) (xs : List Item) → key_in slot (x ∷ xs) ≡ None → (x.0 ≢ slot) × (key_in slot xs ≡ None)
no_key_rest slot x xs none =
    let other : x.0 ≢ slot = λ e. let has = here_key slot x xs e in cc (has, none) in
    (other, sym (on_key slot x xs other) ∙ none)

-- an added slot has its key
pub key_in-placed_same : (x : Item) (xs : List Item) → key_in x.0 xs ≡ None → key_in x.0 (placed x xs) ≡ Some x.1
key_in-placed_same x [] none = here_key x.0 x [] refl
key_in-placed_same x (y ∷ ys) none =
    let rest = no_key_rest x.0 y ys none in
    either (is_before x y)
    (λ e. ap (key_in x.0) (goes_first x y ys e) ∙ here_key x.0 x (y ∷ ys) refl)
    (λ e. ap (key_in x.0) (goes_on x y ys e) ∙ on_key x.0 y (placed x ys) rest.0 ∙ key_in-placed_same x ys rest.1)

-- another keeps its own
pub key_in-placed_other : (slot : ℕ) (x : Item) (xs : List Item) → x.0 ≢ slot → key_in slot (placed x xs) ≡ key_in slot xs
key_in-placed_other slot x [] ne = on_key slot x [] ne
key_in-placed_other slot x (y ∷ ys) ne =
    either (is_before x y)
    (λ e. ap (key_in slot) (goes_first x y ys e) ∙ on_key slot x (y ∷ ys) ne)
    (λ e. ap (key_in slot) (goes_on x y ys e) ∙ ap (λ o. if y.0 == slot then Some y.1 else o) (key_in-placed_other slot x ys ne))

-- a removed slot has no key
pub key_in-without_same : (slot : ℕ) (xs : List Item) → key_in slot (without slot xs) ≡ None
key_in-without_same slot [] = refl
key_in-without_same slot (x ∷ xs) =
    either (x.0 == slot)
    (λ e. ap (λ t. key_in slot (if t then without slot xs else x ∷ without slot xs)) e ∙ key_in-without_same slot xs)
    (λ e. ap (λ t. key_in slot (if t then without slot xs else x ∷ without slot xs)) e
    ∙ ap (λ t. if t then Some x.1 else key_in slot (without slot xs)) e ∙ key_in-without_same slot xs)

-- another keeps its own
pub key_in-without_other : (slot other : ℕ) (xs : List Item) → slot ≢ other → key_in other (without slot xs) ≡ key_in other xs
key_in-without_other slot other [] ne = refl
key_in-without_other slot other (x ∷ xs) ne =
    either (x.0 == slot)
    (λ e.
    let is : x.0 ≡ slot = grind (arith, nat_tests) in
    ap (λ t. key_in other (if t then without slot xs else x ∷ without slot xs)) e ∙ key_in-without_other slot other xs ne
    ∙ sym (on_key other x xs (λ o. ne (sym is ∙ o))))
    (λ e. ap (λ t. key_in other (if t then without slot xs else x ∷ without slot xs)) e ∙ ap (λ o. if x.0 == other then Some x.1 else o)
    (key_in-without_other slot other xs ne))

-- no item of the list stands before one in front of it
abbrev pub IsInOrder : List Item → Type 0
IsInOrder [] = Unit {0}
IsInOrder (x ∷ xs) = Each (λ y. is_before y x ≡ false) xs × IsInOrder xs

-- what is not before the second is not before the first
weaker : (x y : Item) (zs : List Item) → is_before x y ≡ true → Each (λ z. is_before z y ≡ false) zs → Each (λ z. is_before z x ≡ false) zs
weaker x y [] before all = tt
weaker x y (z ∷ zs) before all = (order.chain z y x all.0 (order.one_way x y before), weaker x y zs before all.1)

-- an item in its place keeps the order
placed_in_order : (x : Item) (xs : List Item) → IsInOrder xs → IsInOrder (placed x xs)
placed_in_order x [] all = (tt, tt)
placed_in_order x (y ∷ ys) all =
    either (is_before x y)
    (λ e. subst IsInOrder (sym (goes_first x y ys e)) ((order.one_way x y e, weaker x y ys e all.0), all))
    (λ e. subst IsInOrder (sym (goes_on x y ys e)) (each_placed (λ z. is_before z y ≡ false) x ys e all.0, placed_in_order x ys all.1))

-- what `ordered` makes is in order
pub ordered_in_order : (xs : List Item) → IsInOrder (ordered xs)
ordered_in_order [] = tt
ordered_in_order (x ∷ xs) = placed_in_order x (ordered xs) (ordered_in_order xs)
