-- A heap as its list, over each of its calls.
use Rattle.std.proofs.Common.{◌≡◌, ℕ, ◌+◌, ◌<◌, ◌≤◌, ◌↔◌, ◌&&◌, true, eqb, List, [], length, take}
use Rattle.std.proofs.Common.{set, Option, Some, None, IsSome, IsTrue, refl, sym, ap, subst, ◌∙◌, arith}
use Rattle.std.proofs.lemmas.List.{length-take-le}
use Rattle.std.proofs.lemmas.Bool.Decides.{nat_tests}
use Rattle.std.specs.Prelude.{slice_index, nat_lt}
use Rattle.place_heap.specs.declared.cells.Cell.{Cell}
use Rattle.place_heap.specs.declared.key.Key.{Key}
use Rattle.place_heap.specs.Order.{Item, placed, ordered, without, key_in, first_of}
use Rattle.place_heap.specs.Held.{items_of, places_of, at, AreKept, listed}
use Rattle.place_heap.specs.Sifted.{IsSifted}
use Rattle.place_heap.proofs.Moves.{items_len, places_len, set_as_it_was}
use Rattle.place_heap.proofs.Kept.{key_present, key_absent, present_from_key, absent_from_key, has_room, list_grows, list_changes, list_shrinks}
use Rattle.place_heap.proofs.Kept.{list_ends, first_item, length-ordered}

-- what IsSome says
some_key : (o : Option Key) → IsSome o → (key : Key) × (o ≡ Some key)
some_key None h = absurd (cc h)
some_key (Some key) h = (key, refl)

module _ (cells : List Cell) (len : ℕ) (kept : AreKept cells len) where
  -- it lies in its cells
  fits : len ≤ length (items_of cells)
  fits = omega (arith, items_len cells, kept.within)

  -- a slot of the list stands in a place below the number of items
  pub present_in : (slot : ℕ) → IsSome (key_in slot (listed cells len)) → (slot < length cells) × (slice_index (places_of cells) slot < len)
  unfolding listed
  present_in slot some =
      let has = some_key (key_in slot (listed cells len)) some in
      let both = present_from_key (items_of cells) (places_of cells) len fits kept.indexed slot has.0 has.1 in
      (omega (arith, both.0, places_len cells), both.1)

  -- another slot stands nowhere, and there is room
  pub absent_in : (slot : ℕ) → slot < length cells → key_in slot (listed cells len) ≡ None → slice_index (places_of cells) slot ≡ length (places_of cells)
  unfolding listed
  absent_in slot inside none = absent_from_key (items_of cells) (places_of cells) len fits kept.indexed slot (omega (arith, places_len cells)) none

  -- with a slot that is not in the list there is room
  pub room_for : (slot : ℕ) → slot < length cells → key_in slot (listed cells len) ≡ None → len < length cells
  room_for slot inside none =
      omega (
        arith,
        places_len cells,
        has_room (items_of cells) (places_of cells) len fits kept.indexed slot (omega (arith, places_len cells))
            (absent_in slot inside none) (omega (arith, places_len cells, kept.within)),
      )

  -- the key of a slot
  pub key_here : (slot : ℕ) → slot < length cells → slice_index (places_of cells) slot < len
      → key_in slot (listed cells len) ≡ Some (at (items_of cells) (slice_index (places_of cells) slot)).1
  unfolding listed
  key_here slot inside here = key_present (items_of cells) (places_of cells) len fits kept.indexed slot (omega (arith, places_len cells)) here

  -- a slot that stands nowhere has no key
  pub no_key_here : (slot : ℕ) → len ≤ slice_index (places_of cells) slot → key_in slot (listed cells len) ≡ None
  unfolding listed
  no_key_here slot none = key_absent (items_of cells) (places_of cells) len fits kept.indexed slot none

  -- a slot is in the list exactly where its place is below the number of items
  pub is_present : (slot : ℕ) → slot < length cells → IsTrue (nat_lt (slice_index (places_of cells) slot) len) ↔ IsSome (key_in slot (listed cells len))
  is_present slot inside = (
    λ below. let here : slice_index (places_of cells) slot < len = grind (arith, nat_tests) in subst IsSome (sym (key_here slot inside here)) refl,
    λ some. let here : slice_index (places_of cells) slot < len = (present_in slot some).1 in grind (arith, nat_tests),
  )

  -- the number of items
  pub list_len : len ≡ length (listed cells len)
  unfolding listed
  list_len = sym (length-ordered (take len (items_of cells)) ∙ length-take-le len (items_of cells) fits)

  -- the first of the list
  pub first_here : 0 < len → Some (at (items_of cells) 0) ≡ first_of (listed cells len)
  unfolding listed
  first_here pos = sym (first_item (items_of cells) len pos fits kept.heap)

  -- an empty list has no first
  pub none_here : len ≡ 0 → None ≡ first_of (listed cells len)
  unfolding listed
  none_here e = ap (λ n. first_of (ordered (take n (items_of cells)))) (sym e)

-- the list after a slot was added
pub list_after_insert : (cells mid new : List Cell) (len : ℕ) (x : Item) (kept : AreKept cells len) → x.0 < length cells
    → slice_index (places_of cells) x.0 ≡ length (places_of cells)
    → items_of mid ≡ set (items_of cells) len x → places_of mid ≡ set (places_of cells) x.0 len → length mid ≡ length cells → IsSifted mid new (len + 1)
    → listed new (len + 1) ≡ placed x (listed cells len)
unfolding listed
list_after_insert cells mid new len x kept inside none items places count done = done.list ∙ list_grows cells mid len x kept inside none items places count

-- the list after a slot has another key
pub list_after_update : (cells mid new : List Cell) (len : ℕ) (x : Item) (kept : AreKept cells len)
    → x.0 < length (places_of cells) → slice_index (places_of cells) x.0 < len
    → items_of mid ≡ set (items_of cells) (slice_index (places_of cells) x.0) x → places_of mid ≡ places_of cells → length mid ≡ length cells
    → IsSifted mid new len
    → listed new len ≡ placed x (without x.0 (listed cells len))
unfolding listed
list_after_update cells mid new len x kept inside here items places count done = done.list ∙ list_changes cells mid len x kept inside here items places count

-- two keys that a test finds equal
pub key_same : (a b : Key) → true ≡ (eqb a.first b.first && eqb a.second b.second) → a ≡ b
key_same a b same =
    let first : a.first ≡ b.first = grind (arith, nat_tests) in
    let second : a.second ≡ b.second = grind (arith, nat_tests) in
    (λ j. record { first = first j; second = second j })

-- the list where a slot is given the key that it has
pub list_after_same : (cells : List Cell) (len : ℕ) (x had : Item) (kept : AreKept cells len) → x.0 < length
    (places_of cells) → slice_index (places_of cells) x.0 < len
    → had ≡ at (items_of cells) (slice_index (places_of cells) x.0) → had.1 ≡ x.1
    → listed cells len ≡ placed x (without x.0 (listed cells len))
unfolding listed
list_after_same cells len x had kept inside here lies same =
    let place = slice_index (places_of cells) x.0 in
    let slot : (at (items_of cells) place).0 ≡ x.0 = kept.indexed.present x.0 inside here in
    let key : (at (items_of cells) place).1 ≡ x.1 = ap (λ (y : Item). y.1) (sym lies) ∙ same in
    let is : at (items_of cells) place ≡ x = (λ j. (slot j, key j)) in
    list_changes cells cells len x kept inside here (sym (set_as_it_was (items_of cells) place _) ∙ ap (set (items_of cells) place) is) refl refl

-- the list after a slot went and the last item took its place
pub list_after_remove : (cells mid new : List Cell) (last slot p : ℕ) (item : Item) (kept : AreKept cells (last + 1))
    → slot < length (places_of cells) → slice_index (places_of cells) slot ≡ p → p < last
    → at (items_of cells) last ≡ item → items_of mid ≡ set (items_of cells) p item
    → places_of mid ≡ set (set (places_of cells) slot (length cells)) item.0 p → length mid ≡ length cells → IsSifted mid new last
    → listed new last ≡ without slot (listed cells (last + 1))
unfolding listed
list_after_remove cells mid new last slot p item kept inside here less lies items places count done =
    done.list ∙ list_shrinks cells mid last slot p item kept inside here less lies items places count

-- the list after the slot of the last item went
pub list_after_last : (cells new : List Cell) (last slot : ℕ) (kept : AreKept cells (last + 1))
    → slot < length (places_of cells) → slice_index (places_of cells) slot ≡ last
    → items_of new ≡ items_of cells → places_of new ≡ set (places_of cells) slot (length cells) → length new ≡ length cells
    → listed new last ≡ without slot (listed cells (last + 1))
unfolding listed
list_after_last cells new last slot kept inside here items places count = list_ends cells new last slot kept inside here items places count

-- a new heap has no items
pub list_new : (cells : List Cell) → listed cells 0 ≡ []
unfolding listed
list_new cells = refl
