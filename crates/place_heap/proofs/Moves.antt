-- One step of a move, in cells.
use Rattle.std.proofs.Common.{◌≡◌, ◌≢◌, ℕ, zero, suc, ◌+◌, ◌*◌, ◌<◌, ◌≤◌, true, false, List, [], ◌∷◌, length, take, set, get_or, refl, sym, ap, ◌∙◌}
use Rattle.std.proofs.Common.{arith, ⊎_elim, length-set, inl, inr, ◌⊎◌, ltb}
use Rattle.std.proofs.lemmas.Bool.Decides.{nat_tests}
use Rattle.place_heap.proofs.Before.{either, order, not_itself}
use Rattle.std.proofs.lemmas.List.{length-map, length-take-le, get_or-take, get_or-set_same, get_or-set_other, set_comm, map-set}
use Rattle.std.proofs.lemmas.Bool.{cases_eq}
use lib.ListN.{get_or-map as get_or-map_default}
use Rattle.std.specs.Prelude.{slice_index}
use Rattle.place_heap.specs.declared.cells.Cell.{Cell}
use Rattle.place_heap.specs.Cells.{cell_at, unused_cell}
use Rattle.place_heap.specs.Order.{Item, is_before, ordered}
use Rattle.place_heap.specs.Held.{items_of, places_of, at, IsIndexed}
use Rattle.place_heap.specs.Sifted.{parent, IsReady, CanSiftUp, CanSiftDown, IsSifted, IsLeastChild}
use Rattle.place_heap.proofs.Placed.{ordered_swap}
use Rattle.place_heap.proofs.Trees.{Exchanged, up_step, down_step, up_ends, down_ends}
use Rattle.place_heap.proofs.Standing.{of_indexed, to_indexed, exchanged}

-- a cell and its two parts
pub item_in : (cells : List Cell) (i : ℕ) → at (items_of cells) i ≡ ((cell_at cells i).slot, (cell_at cells i).key)
item_in cells i = get_or-map_default (λ (c : Cell). (c.slot, c.key)) cells i (unused_cell 0)

-- the place in a cell
pub place_in : (cells : List Cell) (i : ℕ) → slice_index (places_of cells) i ≡ (cell_at cells i).at
place_in cells i = get_or-map_default (λ (c : Cell). c.at) cells i (unused_cell 0)

-- as many items as cells
pub items_len : (cells : List Cell) → length (items_of cells) ≡ length cells
items_len cells = length-map cells (λ (c : Cell). (c.slot, c.key))

-- as many places as cells
pub places_len : (cells : List Cell) → length (places_of cells) ≡ length cells
places_len cells = length-map cells (λ (c : Cell). c.at)

-- a part that is written as it was
pub set_as_it_was : {X : Type 0} (xs : List X) (i : ℕ) (d : X) → set xs i (get_or xs i d) ≡ xs
set_as_it_was [] i d = refl
set_as_it_was (x ∷ xs) zero d = refl
set_as_it_was (x ∷ xs) (suc i) d = ap (λ l. x ∷ l) (set_as_it_was xs i d)

-- a cell is written, of which one part stays
pub items_put : (cells : List Cell) (i : ℕ) (x : Cell) → items_of (set cells i x) ≡ set (items_of cells) i (x.slot, x.key)
items_put cells i x = map-set (λ (c : Cell). (c.slot, c.key)) cells i x

-- the same of its place
pub places_put : (cells : List Cell) (i : ℕ) (x : Cell) → places_of (set cells i x) ≡ set (places_of cells) i x.at
places_put cells i x = map-set (λ (c : Cell). c.at) cells i x

-- the items stay where the slot and the key do
pub items_stay : (cells : List Cell) (i : ℕ) (x : Cell) → x.slot ≡ (cell_at cells i).slot → x.key ≡ (cell_at cells i).key
    → items_of (set cells i x) ≡ items_of cells
items_stay cells i x s k =
    items_put cells i x ∙ (λ j. set (items_of cells) i (s j, k j)) ∙ ap (set (items_of cells) i) (sym (item_in cells i)) ∙ set_as_it_was (items_of cells) i _

-- the places stay where the place does
pub places_stay : (cells : List Cell) (i : ℕ) (x : Cell) → x.at ≡ (cell_at cells i).at → places_of (set cells i x) ≡ places_of cells
places_stay cells i x e =
    places_put cells i x ∙ ap (set (places_of cells) i) (e ∙ sym (place_in cells i)) ∙ set_as_it_was (places_of cells) i 0

-- a write and a cut
pub take_set : {X : Type 0} (n : ℕ) (xs : List X) (i : ℕ) (x : X) → take n (set xs i x) ≡ set (take n xs) i x
take_set zero xs i x = refl
take_set (suc n) [] i x = refl
take_set (suc n) (y ∷ ys) zero x = refl
take_set (suc n) (y ∷ ys) (suc i) x = ap (λ l. y ∷ l) (take_set n ys i x)

-- of two numbers one is less
one_is_less : (i j : ℕ) → i ≢ j → (i < j) ⊎ (j < i)
one_is_less i j ne =
    either (ltb i j) (λ e. let less : i < j = grind (arith, nat_tests) in inl less) (λ e. let more : j ≤ i = grind (arith, nat_tests) in inr (omega arith))

-- two items are exchanged, with their places
module _ (items : List Item) (places : List ℕ) (len i j : ℕ) (a b : Item) (iin : i < len) (jin : j < len) (apart : i ≢ j) (fits : len ≤ length items)
    (same : length places ≡ length items)
    (here : at items i ≡ a) (there : at items j ≡ b) (ix : IsIndexed items places len) where
  -- the items then
  abbrev items' : List Item
  items' = set (set items i b) j a

  -- the places of the slots then
  abbrev places' : List ℕ
  places' = set (set places b.0 i) a.0 j

  -- the items are exchanged
  pub are_exchanged : Exchanged (at items) (at items') i j
  are_exchanged = record {
    first = get_or-set_other (set items i b) j i a _ apart ∙ get_or-set_same items i b _ (omega arith) ∙ sym there;
    second = get_or-set_same (set items i b) j a _ (omega (arith, length-set items i b)) ∙ sym here;
    rest = λ k ni nj. get_or-set_other (set items i b) j k a _ nj ∙ get_or-set_other items i k b _ ni;
  }

  -- the first item stands at i
  a_stands : slice_index places a.0 ≡ i
  a_stands = ap (λ (x : Item). slice_index places x.0) (sym here) ∙ ix.stands i iin

  -- the second stands at j
  b_stands : slice_index places b.0 ≡ j
  b_stands = ap (λ (x : Item). slice_index places x.0) (sym there) ∙ ix.stands j jin

  -- their slots differ
  slots_apart : b.0 ≢ a.0
  slots_apart e = apart (sym a_stands ∙ ap (slice_index places) (sym e) ∙ b_stands)

  -- the first slot is one of the slots
  a_inside : a.0 < length places
  a_inside = omega (arith, ix.slots i iin, ap (λ (x : Item). x.0) here)

  -- and so is the second
  b_inside : b.0 < length places
  b_inside = omega (arith, ix.slots j jin, ap (λ (x : Item). x.0) there)

  -- there are as many slots
  same_places : length places' ≡ length places
  same_places = length-set (set places b.0 i) a.0 j ∙ length-set places b.0 i

  -- the index is kept
  pub still_indexed : IsIndexed items' places' len
  still_indexed =
      let to_a : slice_index places' a.0 ≡ j = get_or-set_same (set places b.0 i) a.0 j 0 (omega (arith, a_inside, length-set places b.0 i)) in
      let to_b : slice_index places' b.0 ≡ i = get_or-set_other (set places b.0 i) a.0 b.0 j 0 slots_apart ∙ get_or-set_same places b.0 i 0 b_inside in
      let moved = exchanged (at items) (at items') (slice_index places) (slice_index places') len (length places) i j iin jin apart (omega arith) are_exchanged
      (ap (λ (x : Item). slice_index places' x.0) here ∙ to_a) (ap (λ (x : Item). slice_index places' x.0) there ∙ to_b)
      (λ s na nb. get_or-set_other (set places b.0 i) a.0 s j 0 (λ e. na (e ∙ ap (λ (x : Item). x.0) (sym here))) ∙ get_or-set_other places b.0 s i 0
      (λ e. nb (e ∙ ap (λ (x : Item). x.0) (sym there))))
      (of_indexed items places len ix) in
      to_indexed items' places' len (record {
        slots = λ k kin. omega (arith, moved.slots k kin, same_places);
        stands = moved.stands;
        present = λ s sin tin. moved.present s (omega (arith, same_places)) tin;
        absent = λ s sin late. moved.absent s (omega (arith, same_places)) late ∙ sym same_places;
      })

  -- the items in order are the same
  pub same_list : ordered (take len items') ≡ ordered (take len items)
  same_list =
      let xs : List Item = take len items in
      let long : length xs ≡ len = length-take-le len items fits in
      let at_i : at xs i ≡ a = get_or-take len items i _ iin ∙ here in
      let at_j : at xs j ≡ b = get_or-take len items j _ jin ∙ there in
      ap ordered (take_set len (set items i b) j a ∙ ap (λ l. set l j a) (take_set len items i b)) ∙
      let from_a = sym at_i in let from_b = sym at_j in
      ⊎_elim
      (λ (less : i < j). ap ordered (set_comm xs i j b a apart) ∙ (λ k. ordered (set (set xs j (from_a k)) i (from_b k)))
      ∙ ordered_swap xs i j less (omega arith))
      (λ (more : j < i). (λ k. ordered (set (set xs i (from_b k)) j (from_a k))) ∙ ordered_swap xs j i more (omega arith))
      (one_is_less i j apart)

-- `new` is `cells` with the items a and b, which lay in the places i and j, exchanged
pub record Wrote (cells new : List Cell) (i j : ℕ) (a b : Item) : Type 0 where
  pub items : items_of new ≡ set (set (items_of cells) i b) j a
  pub places : places_of new ≡ set (set (places_of cells) b.0 i) a.0 j
  pub len : length new ≡ length cells

-- the two items are put one after the other
pub wrote_both : (cells mid new : List Cell) (i j : ℕ) (a b : Item) → items_of mid ≡ set (items_of cells) i b
    → places_of mid ≡ set (places_of cells) b.0 i → length mid ≡ length cells
    → items_of new ≡ set (items_of mid) j a → places_of new ≡ set (places_of mid) a.0 j → length new ≡ length mid → Wrote cells new i j a b
wrote_both cells mid new i j a b items1 places1 len1 items2 places2 len2 =
    record { items = items2 ∙ ap (λ l. set l j a) items1; places = places2 ∙ ap (λ l. set l a.0 j) places1; len = len2 ∙ len1 }

-- the place of an item after it was exchanged with another, and what else is as it was
pub record Went (cells new : List Cell) (len j : ℕ) (a : Item) : Type 0 where
  pub ready : IsReady new len j a
  pub list : ordered (take len (items_of new)) ≡ ordered (take len (items_of cells))
  pub same_len : length new ≡ length cells

module _ (cells new : List Cell) (len i j : ℕ) (a b : Item) (ready : IsReady cells len i a) (jin : j < len) (apart : i ≢ j)
    (there : at (items_of cells) j ≡ b) (wrote : Wrote cells new i j a b) where
  -- the items are within the cells
  fits : len ≤ length (items_of cells)
  fits = omega (arith, items_len cells, ready.within)

  -- as many places as items
  same_count : length (places_of cells) ≡ length (items_of cells)
  same_count = places_len cells ∙ sym (items_len cells)

  -- the place j is one of them
  inside_items : j < length (set (items_of cells) i b)
  inside_items = omega (arith, fits, length-set (items_of cells) i b)

  -- what is known after the exchange
  pub went : Went cells new len j a
  went = record {
    ready = record {
      small = omega (arith, ready.small, wrote.len);
      within = omega (arith, ready.within, wrote.len);
      inside = jin;
      lies = ap (λ l. at l j) wrote.items ∙ get_or-set_same (set (items_of cells) i b) j a _ inside_items;
      indexed = rw (wrote.items, wrote.places)
          (still_indexed (items_of cells) (places_of cells) len i j a b ready.inside jin apart fits same_count ready.lies there ready.indexed);
    };
    list = ap (λ l. ordered (take len l)) wrote.items ∙ same_list (items_of cells) (places_of cells) len i j a b ready.inside jin apart fits
        same_count ready.lies there ready.indexed;
    same_len = wrote.len;
  }

  -- the items are exchanged
  pub exchange : Exchanged (at (items_of cells)) (at (items_of new)) i j
  exchange = rw wrote.items (are_exchanged (items_of cells) (places_of cells) len i j a b ready.inside jin apart fits same_count ready.lies there ready.indexed)

-- an item went up to its parent's place
pub sift_up_step : (cells new : List Cell) (len i : ℕ) (a b : Item) → 0 < i → CanSiftUp cells len i a → at (items_of cells) (parent i) ≡ b
    → is_before a b ≡ true → Wrote cells new i (parent i) a b
    → CanSiftUp new len (parent i) a × Went cells new len (parent i) a
sift_up_step cells new len i a b pos can there before wrote =
    let ready = can.ready in
    let up : parent i < len = omega (arith, ready.inside) in
    let ne : i ≢ parent i = omega arith in
    let gone = went cells new len i (parent i) a b ready up ne there wrote in (
      record {
        ready = gone.ready;
        state = up_step (at (items_of cells)) (at (items_of new)) len i pos ready.inside (exchange cells new len i (parent i) a b ready up ne there wrote)
            ((λ k. is_before (ready.lies k) (there k)) ∙ before) can.state;
      },
      gone,
    )

-- an item went down to the place of its least child
pub sift_down_step : (cells new : List Cell) (len i child : ℕ) (a b : Item) → CanSiftDown cells len i a → IsLeastChild (items_of cells) len i child b
    → is_before b a ≡ true → Wrote cells new i child a b
    → CanSiftDown new len child a × Went cells new len child a
sift_down_step cells new len i child a b can down before wrote =
    let ready = can.ready in
    let ne : i ≢ child = omega (arith, down.below) in
    let gone = went cells new len i child a b ready down.inside ne down.lies wrote in (
      record {
        ready = gone.ready;
        state = down_step (at (items_of cells)) (at (items_of new)) len i child (omega (arith, down.below)) down.inside down.under
            (exchange cells new len i child a b ready down.inside ne down.lies wrote)
            ((λ k. is_before (down.lies k) (ready.lies k)) ∙ before) down.least can.state;
      },
      gone,
    )

-- an item that is not before its parent's is where it belongs
pub sift_up_ends : (old cells : List Cell) (len i : ℕ) (a b : Item) → CanSiftUp cells len i a → at (items_of cells) (parent i) ≡ b
    → is_before a b ≡ false → length cells ≡ length old
    → ordered (take len (items_of cells)) ≡ ordered (take len (items_of old)) → IsSifted old cells len
sift_up_ends old cells len i a b can there late same list = record {
  same_len = same;
  heap = up_ends (at (items_of cells)) len i (λ pos. (λ k. is_before (can.ready.lies k) (there k)) ∙ late) can.state;
  indexed = can.ready.indexed;
  list = list;
}

-- and so is the first
pub sift_up_at_top : (old cells : List Cell) (len i : ℕ) (a : Item) → CanSiftUp cells len i a → i ≡ 0 → length cells ≡ length old
    → ordered (take len (items_of cells)) ≡ ordered (take len (items_of old)) → IsSifted old cells len
sift_up_at_top old cells len i a can top same list = record {
  same_len = same;
  heap = up_ends (at (items_of cells)) len i (λ pos. absurd (omega arith)) can.state;
  indexed = can.ready.indexed;
  list = list;
}

-- an item that its least child is not before is where it belongs
pub sift_down_ends : (old cells : List Cell) (len i child : ℕ) (a b : Item) → CanSiftDown cells len i a → IsLeastChild (items_of cells) len i child b
    → is_before b a ≡ false → length cells ≡ length old
    → ordered (take len (items_of cells)) ≡ ordered (take len (items_of old)) → IsSifted old cells len
sift_down_ends old cells len i child a b can down late same list = record {
  same_len = same;
  heap = down_ends (at (items_of cells)) len i
      (λ k pos kin e. order.chain (at (items_of cells) k) (at (items_of cells) child) (at (items_of cells) i) (down.least k pos kin e)
      ((λ n. is_before (down.lies n) (can.ready.lies n)) ∙ late)) can.state;
  indexed = can.ready.indexed;
  list = list;
}

-- and so is one with no child
pub sift_down_at_end : (old cells : List Cell) (len i : ℕ) (a : Item) → CanSiftDown cells len i a → len ≤ 2 * i + 1 → length cells ≡ length old
    → ordered (take len (items_of cells)) ≡ ordered (take len (items_of old)) → IsSifted old cells len
sift_down_at_end old cells len i a can last same list = record {
  same_len = same;
  heap = down_ends (at (items_of cells)) len i (λ k pos kin e. absurd (omega arith)) can.state;
  indexed = can.ready.indexed;
  list = list;
}

module _ (items : List Item) (len i : ℕ) (left right : Item) (here : at items (2 * i + 1) ≡ left) where
  -- the left child, where there is no other
  pub only_child : 2 * i + 2 ≡ len → IsLeastChild items len i (2 * i + 1) left
  only_child last = record {
    below = omega arith;
    inside = omega arith;
    under = omega arith;
    lies = here;
    least = λ k pos kin e. let same : k ≡ 2 * i + 1 =
        omega arith in ap (λ n. is_before (at items n) (at items (2 * i + 1))) same ∙ not_itself (at items (2 * i + 1));
  }

  -- the left child, where the right one is not before it
  pub left_child : at items (2 * i + 2) ≡ right → 2 * i + 2 < len → is_before right left ≡ false → IsLeastChild items len i (2 * i + 1) left
  left_child there room late = record {
    below = omega arith;
    inside = omega arith;
    under = omega arith;
    lies = here;
    least = λ k pos kin e.
        ⊎_elim (λ same. ap (λ n. is_before (at items n) (at items (2 * i + 1))) same ∙ not_itself (at items (2 * i + 1)))
        (λ ne. let same : k ≡ 2 * i + 2 = omega arith in ap (λ n. is_before (at items n) (at items (2 * i + 1))) same
        ∙ (λ n. is_before (there n) (here n)) ∙ late)
        (cases_eq k (2 * i + 1));
  }

  -- the right child, where it is before the left one
  pub right_child : at items (2 * i + 2) ≡ right → 2 * i + 2 < len → is_before right left ≡ true → IsLeastChild items len i (2 * i + 2) right
  right_child there room before = record {
    below = omega arith;
    inside = omega arith;
    under = omega arith;
    lies = there;
    least = λ k pos kin e.
        ⊎_elim (λ same. ap (λ n. is_before (at items n) (at items (2 * i + 2))) same ∙ (λ n. is_before (here n) (there n)) ∙ order.one_way right left before)
        (λ ne. let same : k ≡ 2 * i + 2 = omega arith in ap (λ n. is_before (at items n) (at items (2 * i + 2))) same ∙ not_itself (at items (2 * i + 2)))
        (cases_eq k (2 * i + 1));
  }
