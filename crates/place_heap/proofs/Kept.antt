-- A heap over each of its calls, in cells.
use Rattle.std.proofs.Common.{◌≡◌, ◌≢◌, ℕ, zero, suc, ◌+◌, ◌-◌, ◌/◌, ◌<◌, ◌≤◌, true, false, List, [], ◌∷◌, length, take, set, Some, None, refl, sym}
use Rattle.std.proofs.Common.{ap, subst, ◌∙◌, arith, ⊎_elim, length-set, ltb}
use Rattle.std.proofs.lemmas.List.{length-take-le, get_or-take, get_or-set_same, get_or-set_other, take-set-le, get_or-replicate, length-replicate}
use Rattle.std.proofs.lemmas.Bool.{cases_eq}
use Rattle.std.proofs.lemmas.Bool.Decides.{nat_tests}
use Rattle.std.specs.Prelude.{slice_index, replicate, if◌then◌else◌, ◌==◌}
use Rattle.place_heap.specs.declared.cells.Cell.{Cell}
use Rattle.place_heap.specs.declared.key.Key.{Key}
use Rattle.place_heap.specs.Cells.{unused_cell}
use Rattle.place_heap.specs.Order.{Item, is_before, placed, ordered, without, key_in, first_of}
use Rattle.place_heap.specs.Held.{items_of, places_of, at, IsHeap, IsIndexed, AreKept}
use Rattle.place_heap.specs.Sifted.{parent, InOrder, CanSiftUp, IsSifted, MayMove}
use Rattle.place_heap.proofs.Before.{either, test_same, test_other, order, is_after}
use Rattle.place_heap.proofs.Room.{no_more}
use Rattle.place_heap.proofs.Placed.{placed_swap, ordered_more, each_placed, each_ordered, each_take, Rest, rest_of, Others, without_placed, no_key}
use Rattle.place_heap.proofs.Placed.{key_placed, least_first}
use Rattle.place_heap.proofs.Trees.{grown, may_go_up, may_go_down, first_is_least}
use Rattle.place_heap.proofs.Standing.{of_indexed, to_indexed, added, rekeyed, removed}
use Rattle.place_heap.proofs.Moves.{items_len, places_len, place_in, take_set}

-- a heap is in order
pub in_order : (items : List Item) (len : ℕ) → IsHeap items len → InOrder (at items) len
in_order items len heap i pos inside = order.one_way (at items (parent i)) (at items i) (heap i pos inside)

-- items of different slots in order are a heap
pub is_heap : (items : List Item) (places : List ℕ) (len : ℕ) → IsIndexed items places len → InOrder (at items) len → IsHeap items len
is_heap items places len ix heap i pos inside =
    is_after (at items (parent i)) (at items i)
    (λ e. absurd (omega (arith, ix.stands i inside, ix.stands (parent i) (omega arith), ap (slice_index places) e))) (heap i pos inside)

-- what was moved is a heap again
pub kept_again : (old new : List Cell) (len : ℕ) → length old ≤ 8192 → len ≤ length old → IsSifted old new len → AreKept new len
kept_again old new len small within done = record {
  small = omega (arith, done.same_len);
  within = omega (arith, done.same_len);
  heap = is_heap (items_of new) (places_of new) len done.indexed done.heap;
  indexed = done.indexed;
}

module _ (items : List Item) (places : List ℕ) (len : ℕ) (fits : len ≤ length items) (ix : IsIndexed items places len) where
  -- the items of the heap
  abbrev xs : List Item
  xs = take len items

  -- another place holds another slot
  other_slots : (slot : ℕ) → ((k : ℕ) → k < len → k ≢ slice_index places slot → (at items k).0 ≢ slot)
  other_slots slot k inside ne e = ne (sym (ix.stands k inside) ∙ ap (slice_index places) e)

  -- what is left but the item of a present slot
  pub rest_but : (slot : ℕ) → slot < length places → slice_index places slot < len → Rest (λ x. x.0 ≢ slot) xs (slice_index places slot)
  rest_but slot inside here =
      let long : length xs ≡ len = length-take-le len items fits in
      rest_of (λ x. x.0 ≢ slot) xs (slice_index places slot) (omega arith)
      (λ k below ne e. other_slots slot k (omega arith) ne (ap (λ (x : Item). x.0) (sym (get_or-take len items k _ (omega arith))) ∙ e))

  -- the item at a place of the heap
  at_place : (slot : ℕ) → slice_index places slot < len → at xs (slice_index places slot) ≡ at items (slice_index places slot)
  at_place slot here = get_or-take len items (slice_index places slot) _ here

  -- a slot that is present has its key
  pub key_present : (slot : ℕ) → slot < length places → slice_index places slot < len → key_in slot (ordered xs) ≡ Some (at items (slice_index places slot)).1
  key_present slot inside here =
      let p : ℕ = slice_index places slot in
      let rest = rest_but slot inside here in
      let x : Item = at items p in
      let is : x.0 ≡ slot = ix.present slot inside here in
      ap (key_in slot) (rest.whole ∙ ap (λ y. placed y rest.items) (at_place slot here)) ∙ ap (λ s. key_in s (placed x rest.items)) (sym is)
      ∙ key_placed x rest.items (subst (λ s. Others s rest.items) (sym is) rest.each)

  -- one that is absent has none
  pub key_absent : (slot : ℕ) → len ≤ slice_index places slot → key_in slot (ordered xs) ≡ None
  key_absent slot none =
      no_key slot (ordered xs)
      (each_ordered (λ x. x.0 ≢ slot) xs (each_take (λ x. x.0 ≢ slot) items len fits (λ k inside. other_slots slot k inside (omega arith))))

  -- and so has one that is too great
  pub key_beyond : (slot : ℕ) → length places ≤ slot → key_in slot (ordered xs) ≡ None
  key_beyond slot none =
      no_key slot (ordered xs)
      (each_ordered (λ x. x.0 ≢ slot) xs (each_take (λ x. x.0 ≢ slot) items len fits (λ k inside e. absurd (omega (arith, ix.slots k inside)))))

  -- a slot with a key is present
  pub present_from_key : (slot : ℕ) (key : Key) → key_in slot (ordered xs) ≡ Some key → (slot < length places) × (slice_index places slot < len)
  present_from_key slot key has =
      either (ltb slot (length places))
      (λ low. let inside : slot < length places = grind (arith, nat_tests) in
      either (ltb (slice_index places slot) len)
      (λ here. let lies : slice_index places slot < len = grind (arith, nat_tests) in (inside, lies))
      (λ gone. let none : len ≤ slice_index places slot = grind (arith, nat_tests) in let e = key_absent slot none in absurd (cc (has, e))))
      (λ high. let none : length places ≤ slot = grind (arith, nat_tests) in let e = key_beyond slot none in absurd (cc (has, e)))

  -- a slot with no key is absent
  pub absent_from_key : (slot : ℕ) → slot < length places → key_in slot (ordered xs) ≡ None → slice_index places slot ≡ length places
  absent_from_key slot inside none =
      either (ltb (slice_index places slot) len)
      (λ here. let lies : slice_index places slot < len = grind (arith, nat_tests) in let e = key_present slot inside lies in absurd (cc (none, e)))
      (λ gone. let beyond : len ≤ slice_index places slot = grind (arith, nat_tests) in ix.absent slot inside beyond)

  -- with an absent slot there is room
  pub has_room : (slot : ℕ) → slot < length places → slice_index places slot ≡ length places → len ≤ length places → len < length places
  has_room slot inside none most =
      let f : ℕ → ℕ = λ i. if i == len then slot else (at items i).0 in
      let here : (i : ℕ) → i ≡ len → f i ≡ slot = λ i e. ap (λ t. if t then slot else (at items i).0) (test_same i len e) in
      let else_ : (i : ℕ) → i ≢ len → f i ≡ (at items i).0 = λ i ne. ap (λ t. if t then slot else (at items i).0) (test_other i len ne) in
      let low : (i : ℕ) → i < len + 1 → f i < length places =
      λ i below. ⊎_elim (λ e. omega (arith, here i e)) (λ ne. omega (arith, else_ i ne, ix.slots i (omega arith))) (cases_eq i len) in
      let new : (i : ℕ) → i < len → (at items i).0 ≢ slot = λ i below e. absurd (omega (arith, ix.stands i below, ap (slice_index places) e)) in
      let apart : (i j : ℕ) → i < len + 1 → j < len + 1 → f i ≡ f j → i ≡ j = λ i j iin jin same. ⊎_elim
      (λ ei. ⊎_elim (λ ej. ei ∙ sym ej) (λ nj. absurd (new j (omega arith) (sym (else_ j nj) ∙ sym same ∙ here i ei))) (cases_eq j len))
      (λ ni. ⊎_elim (λ ej. absurd (new i (omega arith) (sym (else_ i ni) ∙ same ∙ here j ej)))
      (λ nj. sym (ix.stands i (omega arith)) ∙ ap (slice_index places) (sym (else_ i ni) ∙ same ∙ else_ j nj) ∙ ix.stands j (omega arith)) (cases_eq j len))
      (cases_eq i len) in
      let all : len + 1 ≤ length places = no_more (length places) (len + 1) f low apart in
      omega arith

-- an absent slot is put behind the heap
module _ (cells mid : List Cell) (len : ℕ) (x : Item) (kept : AreKept cells len) (inside : x.0 < length cells)
    (none : slice_index (places_of cells) x.0 ≡ length (places_of cells))
    (items : items_of mid ≡ set (items_of cells) len x) (places : places_of mid ≡ set (places_of cells) x.0 len) (count : length mid ≡ length cells) where
  -- there is a cell for it
  pub room : len < length cells
  room = omega (
    arith,
    items_len cells,
    places_len cells,
    has_room (items_of cells) (places_of cells) len (omega (arith, items_len cells, kept.within)) kept.indexed x.0
        (omega (arith, places_len cells)) none (omega (arith, places_len cells, kept.within)),
  )

  -- the same, of the items
  new_len : len < length (items_of cells)
  new_len = omega (arith, room, items_len cells)

  -- the other places are as they were
  others_stay : (k : ℕ) → k ≢ len → at (items_of mid) k ≡ at (items_of cells) k
  others_stay k ne = ap (λ l. at l k) items ∙ get_or-set_other (items_of cells) len k x _ ne

  -- the new item lies at the end
  lies_there : at (items_of mid) len ≡ x
  lies_there = ap (λ l. at l len) items ∙ get_or-set_same (items_of cells) len x _ new_len

  -- it may have to go up from there
  pub put_behind : CanSiftUp mid (len + 1) len x
  put_behind =
      let same : length (places_of mid) ≡ length (places_of cells) = ap length places ∙ length-set (places_of cells) x.0 len in
      let there = ap (λ l. slice_index l x.0) places ∙ get_or-set_same (places_of cells) x.0 len 0 (omega (arith, places_len cells)) in
      let ix = added (at (items_of cells)) (at (items_of mid)) (slice_index (places_of cells)) (slice_index (places_of mid)) len
      (length (places_of cells)) x (omega (arith, room, places_len cells)) (omega (arith, places_len cells)) none
      lies_there others_stay there (λ s ne. ap (λ l. slice_index l s) places ∙ get_or-set_other (places_of cells) x.0 s len 0 ne)
      (of_indexed (items_of cells) (places_of cells) len kept.indexed) in
      record {
        ready = record {
          small = omega (arith, kept.small);
          within = omega (arith, room);
          inside = omega arith;
          lies = lies_there;
          indexed = to_indexed (items_of mid) (places_of mid) (len + 1) (record {
            slots = λ k kin. omega (arith, ix.slots k kin, same);
            stands = ix.stands;
            present = λ s sin tin. ix.present s (omega (arith, same)) tin;
            absent = λ s sin late. ix.absent s (omega (arith, same)) late ∙ sym same;
          });
        };
        state = grown (at (items_of cells)) (at (items_of mid)) len others_stay (in_order (items_of cells) len kept.heap);
      }

  -- the items in order are those with the new one in its place
  pub list_grows : ordered (take (len + 1) (items_of mid)) ≡ placed x (ordered (take len (items_of cells)))
  list_grows =
      let more : len + 1 ≡ suc len = omega arith in
      ap (λ n. ordered (take n (items_of mid))) more
      ∙ ordered_more (items_of mid) len (omega (arith, ap length items, length-set (items_of cells) len x, new_len))
      ∙ ap (λ y. placed y (ordered (take len (items_of mid)))) lies_there
      ∙ ap (λ l. placed x (ordered l)) (ap (take len) items ∙ take-set-le len (items_of cells) len x (omega arith))

-- the key of a present slot is changed
module _ (cells mid : List Cell) (len : ℕ) (x : Item) (kept : AreKept cells len) (inside : x.0 < length (places_of cells))
    (here : slice_index (places_of cells) x.0 < len)
    (items : items_of mid ≡ set (items_of cells) (slice_index (places_of cells) x.0) x) (places : places_of mid ≡ places_of cells)
    (count : length mid ≡ length cells) where
  -- where the slot stands
  abbrev p : ℕ
  p = slice_index (places_of cells) x.0

  -- the heap lies in its cells
  long : len ≤ length (items_of cells)
  long = omega (arith, items_len cells, kept.within)

  -- the other places are as they were
  others_same : (k : ℕ) → k ≢ p → at (items_of mid) k ≡ at (items_of cells) k
  others_same k ne = ap (λ l. at l k) items ∙ get_or-set_other (items_of cells) p k x _ ne

  -- the item lies there
  lies_p : at (items_of mid) p ≡ x
  lies_p = ap (λ l. at l p) items ∙ get_or-set_same (items_of cells) p x _ (omega (arith, long))

  -- no slot moved
  same_slots : (k : ℕ) → (at (items_of mid) k).0 ≡ (at (items_of cells) k).0
  same_slots k = ⊎_elim
      (λ e. ap (λ n. (at (items_of mid) n).0) e ∙ ap (λ (y : Item). y.0) lies_p
      ∙ sym (ap (λ n. (at (items_of cells) n).0) e ∙ kept.indexed.present x.0 inside here))
      (λ ne. ap (λ (y : Item). y.0) (others_same k ne)) (cases_eq k p)

  -- the item may have to move
  pub rekeyed_moves : MayMove mid len p (at (items_of cells) p) x
  rekeyed_moves =
      let ix = rekeyed (at (items_of cells)) (at (items_of mid)) (slice_index (places_of cells)) len (length (places_of cells)) same_slots
      (of_indexed (items_of cells) (places_of cells) len kept.indexed) in
      let f = at (items_of cells) in let g = at (items_of mid) in
      record {
        ready = record {
          small = omega (arith, kept.small);
          within = omega (arith, kept.within);
          inside = here;
          lies = lies_p;
          indexed = subst (λ l. IsIndexed (items_of mid) l len) (sym places) (to_indexed (items_of mid) (places_of cells) len ix);
        };
        up = λ before. may_go_up f g len p here others_same (in_order (items_of cells) len kept.heap) (ap (λ y. is_before y (f p)) lies_p ∙ before);
        down = λ late. may_go_down f g len p here others_same (in_order (items_of cells) len kept.heap) (ap (λ y. is_before y (f p)) lies_p ∙ late);
      }

  -- the items in order are those without the slot, and then it in its place
  pub list_changes : ordered (take len (items_of mid)) ≡ placed x (without x.0 (ordered (take len (items_of cells))))
  list_changes =
      let rest = rest_but (items_of cells) (places_of cells) len long kept.indexed x.0 inside here in
      let y : Item = at (items_of cells) p in
      let is : y.0 ≡ x.0 = kept.indexed.present x.0 inside here in
      let gone : without x.0 (ordered (take len (items_of cells))) ≡ rest.items =
      ap (without x.0) (rest.whole ∙ ap (λ z. placed z rest.items) (at_place (items_of cells) (places_of cells) len long kept.indexed x.0 here))
      ∙ ap (λ s. without s (placed y rest.items)) (sym is)
      ∙ without_placed y rest.items (subst (λ s. Others s rest.items) (sym is) rest.each) in
      ap (λ l. ordered l) (ap (take len) items ∙ take_set len (items_of cells) p x) ∙ rest.changed x ∙ ap (placed x) (sym gone)

-- the place of a slot goes, and the last item goes to where it stood
module _ (cells mid : List Cell) (last slot p : ℕ) (item : Item) (kept : AreKept cells (last + 1))
    (inside : slot < length (places_of cells)) (here : slice_index (places_of cells) slot ≡ p) (less : p < last)
    (lies : at (items_of cells) last ≡ item)
    (items : items_of mid ≡ set (items_of cells) p item) (places : places_of mid ≡ set (set (places_of cells) slot (length cells)) item.0 p)
    (count : length mid ≡ length cells) where
  -- the heap lies in its cells
  reach : last + 1 ≤ length (items_of cells)
  reach = omega (arith, items_len cells, kept.within)

  -- the other places are as they were
  were : (k : ℕ) → k ≢ p → at (items_of mid) k ≡ at (items_of cells) k
  were k ne = ap (λ l. at l k) items ∙ get_or-set_other (items_of cells) p k item _ ne

  -- the last item lies in the place
  now : at (items_of mid) p ≡ item
  now = ap (λ l. at l p) items ∙ get_or-set_same (items_of cells) p item _ (omega (arith, reach))

  -- where the last item stood
  item_stands : slice_index (places_of cells) item.0 ≡ last
  item_stands = ap (λ (y : Item). slice_index (places_of cells) y.0) (sym lies) ∙ kept.indexed.stands last (omega arith)

  -- its slot is one of the slots
  item_inside : item.0 < length (places_of cells)
  item_inside = omega (arith, kept.indexed.slots last (omega arith), ap (λ (y : Item). y.0) lies)

  -- it is another slot than that which goes
  other_item : slot ≢ item.0
  other_item e = absurd (omega (arith, ap (slice_index (places_of cells)) e, item_stands))

  -- there are as many slots
  same_count : length (places_of mid) ≡ length (places_of cells)
  same_count = ap length places ∙ length-set (set (places_of cells) slot (length cells)) item.0 p ∙ length-set (places_of cells) slot (length cells)

  -- the item may have to move
  pub filled_moves : MayMove mid last p (at (items_of cells) p) item
  filled_moves =
      let f = at (items_of cells) in let g = at (items_of mid) in
      let cut = set (places_of cells) slot (length cells) in
      let heap : InOrder f last = λ i pos below. in_order (items_of cells) (last + 1) kept.heap i pos (omega arith) in
      let gone : slice_index (places_of mid) slot ≡ length (places_of cells) =
      ap (λ l. slice_index l slot) places ∙ get_or-set_other cut item.0 slot p 0 other_item ∙ get_or-set_same (places_of cells) slot
      (length cells) 0 inside ∙ sym (places_len cells) in
      let moved : slice_index (places_of mid) (f last).0 ≡ p =
      ap (λ (y : Item). slice_index (places_of mid) y.0) lies ∙ ap (λ l. slice_index l item.0) places ∙ get_or-set_same cut item.0 p 0
      (omega (arith, item_inside, length-set (places_of cells) slot (length cells))) in
      let rest : (s : ℕ) → s ≢ slot → s ≢ (f last).0 → slice_index (places_of mid) s ≡ slice_index (places_of cells) s = λ s ns nl.
      ap (λ l. slice_index l s) places ∙ get_or-set_other cut item.0 s p 0 (λ e. nl (e ∙ ap (λ (y : Item). y.0) (sym lies)))
      ∙ get_or-set_other (places_of cells) slot s (length cells) 0 ns in
      let ix = removed f g (slice_index (places_of cells)) (slice_index (places_of mid)) last (length (places_of cells)) slot p
      (omega (arith, kept.within, places_len cells)) inside here (omega arith)
      (λ _. now ∙ sym lies) were gone (λ _. moved) rest (of_indexed (items_of cells) (places_of cells) (last + 1) kept.indexed) in
      record {
        ready = record {
          small = omega (arith, kept.small);
          within = omega (arith, kept.within);
          inside = less;
          lies = now;
          indexed = to_indexed (items_of mid) (places_of mid) last (record {
            slots = λ k kin. omega (arith, ix.slots k kin, same_count);
            stands = ix.stands;
            present = λ s sin tin. ix.present s (omega (arith, same_count)) tin;
            absent = λ s sin late. ix.absent s (omega (arith, same_count)) late ∙ sym same_count;
          });
        };
        up = λ before. may_go_up f g last p less were heap (ap (λ y. is_before y (f p)) now ∙ before);
        down = λ late. may_go_down f g last p less were heap (ap (λ y. is_before y (f p)) now ∙ late);
      }

  -- the items in order are those without the slot
  pub list_shrinks : ordered (take last (items_of mid)) ≡ without slot (ordered (take (last + 1) (items_of cells)))
  list_shrinks =
      let xs : List Item = take last (items_of cells) in
      let f = at (items_of cells) in
      let full : length xs ≡ last = length-take-le last (items_of cells) (omega (arith, reach)) in
      let at_xs : (k : ℕ) → k < last → at xs k ≡ f k = λ k below. get_or-take last (items_of cells) k _ below in
      let slot_p : (f p).0 ≡ slot = ap (λ n. (f n).0) (sym here) ∙ kept.indexed.present slot inside (omega arith) in
      let apart : (k : ℕ) → k < last + 1 → k ≢ p → (f k).0 ≢ slot =
      λ k below ne e. ne (sym (kept.indexed.stands k below) ∙ ap (slice_index (places_of cells)) e ∙ here) in
      let rest =
      rest_of (λ x. x.0 ≢ slot) xs p (omega arith) (λ k below ne e. apart k (omega arith) ne (ap (λ (y : Item). y.0) (sym (at_xs k (omega arith))) ∙ e)) in
      let more : last + 1 ≡ suc last = omega arith in
      let whole : ordered (take (last + 1) (items_of cells)) ≡ placed (f p) (placed item rest.items) =
      ap (λ n. ordered (take n (items_of cells))) more ∙ ordered_more (items_of cells) last (omega (arith, reach)) ∙ ap (λ y. placed y (ordered xs)) lies
      ∙ ap (placed item) (rest.whole ∙ ap (λ y. placed y rest.items) (at_xs p less)) ∙ placed_swap item (f p) rest.items in
      let others : Others slot (placed item rest.items) = each_placed (λ x. x.0 ≢ slot) item rest.items (λ e. other_item (sym e)) rest.each in
      let gone : without slot (placed (f p) (placed item rest.items)) ≡ placed item rest.items =
      ap (λ s. without s (placed (f p) (placed item rest.items))) (sym slot_p) ∙ without_placed (f p) (placed item rest.items)
      (subst (λ s. Others s (placed item rest.items)) (sym slot_p) others) in
      ap ordered (ap (take last) items ∙ take_set last (items_of cells) p item) ∙ rest.changed item ∙ sym (ap (without slot) whole ∙ gone)

-- the place of the last item goes
module _ (cells new : List Cell) (last slot : ℕ) (kept : AreKept cells (last + 1)) (inside : slot < length (places_of cells))
    (here : slice_index (places_of cells) slot ≡ last)
    (items : items_of new ≡ items_of cells) (places : places_of new ≡ set (places_of cells) slot (length cells)) (count : length new ≡ length cells) where
  -- what is left is a heap
  pub last_goes : AreKept new last
  last_goes =
      let f = at (items_of cells) in
      let same_count : length (places_of new) ≡ length (places_of cells) = ap length places ∙ length-set (places_of cells) slot (length cells) in
      let at_last : (f last).0 ≡ slot = ap (λ n. (f n).0) (sym here) ∙ kept.indexed.present slot inside (omega arith) in
      let gone : slice_index (places_of new) slot ≡ length (places_of cells) =
      ap (λ l. slice_index l slot) places ∙ get_or-set_same (places_of cells) slot (length cells) 0 inside ∙ sym (places_len cells) in
      let ix = removed f f (slice_index (places_of cells)) (slice_index (places_of new)) last (length (places_of cells)) slot last
      (omega (arith, kept.within, places_len cells)) inside here (omega arith)
      (λ less. absurd (omega arith)) (λ k ne. refl) gone (λ less. absurd (omega arith))
      (λ s ns nl. ap (λ l. slice_index l s) places ∙ get_or-set_other (places_of cells) slot s (length cells) 0 ns)
      (of_indexed (items_of cells) (places_of cells) (last + 1) kept.indexed) in
      record {
        small = omega (arith, kept.small);
        within = omega (arith, kept.within);
        heap = λ i pos below. subst (λ l. is_before (at l ((i - 1) / 2)) (at l i) ≡ true) (sym items) (kept.heap i pos (omega arith));
        indexed = subst (λ l. IsIndexed l (places_of new) last) (sym items) (to_indexed (items_of cells) (places_of new) last (record {
          slots = λ k kin. omega (arith, ix.slots k kin, same_count);
          stands = ix.stands;
          present = λ s sin tin. ix.present s (omega (arith, same_count)) tin;
          absent = λ s sin late. ix.absent s (omega (arith, same_count)) late ∙ sym same_count;
        }));
      }

  -- the items in order are those without the slot
  pub list_ends : ordered (take last (items_of new)) ≡ without slot (ordered (take (last + 1) (items_of cells)))
  list_ends =
      let f = at (items_of cells) in let xs : List Item = take last (items_of cells) in
      let reach : last + 1 ≤ length (items_of cells) = omega (arith, items_len cells, kept.within) in
      let slot_last : (f last).0 ≡ slot = ap (λ n. (f n).0) (sym here) ∙ kept.indexed.present slot inside (omega arith) in
      let more : last + 1 ≡ suc last = omega arith in
      let whole : ordered (take (last + 1) (items_of cells)) ≡ placed (f last) (ordered xs) =
      ap (λ n. ordered (take n (items_of cells))) more ∙ ordered_more (items_of cells) last (omega (arith, reach)) in
      let others : Others slot (ordered xs) = each_ordered (λ x. x.0 ≢ slot) xs (each_take (λ x. x.0 ≢ slot) (items_of cells) last (omega (arith, reach))
      (λ k below e. absurd (omega (arith, kept.indexed.stands k (omega arith), ap (slice_index (places_of cells)) e)))) in
      ap (λ l. ordered (take last l)) items ∙ sym (ap (without slot) whole ∙ ap (λ s. without s (placed (f last) (ordered xs))) (sym slot_last)
      ∙ without_placed (f last) (ordered xs) (subst (λ s. Others s (ordered xs)) (sym slot_last) others))

-- the first item of a heap is the first in order
pub first_item : (items : List Item) (len : ℕ) → 0 < len → len ≤ length items → IsHeap items len → first_of (ordered (take len items)) ≡ Some (at items 0)
first_item items zero pos fits heap = absurd (omega arith)
first_item [] (suc n) pos fits heap = absurd (omega arith)
first_item (x ∷ xs) (suc n) pos fits heap =
    let low : (i : ℕ) → i < n → is_before (at xs i) x ≡ false = λ i below.
    first_is_least (at (x ∷ xs)) (suc n) (in_order (x ∷ xs) (suc n) heap) (suc i) (suc i) (omega arith) (omega arith) (omega arith) in
    ap first_of (least_first x (ordered (take n xs))
    (each_ordered (λ y. is_before y x ≡ false) (take n xs) (each_take (λ y. is_before y x ≡ false) xs n (omega arith) low)))

-- one item more
length-placed : (x : Item) (ys : List Item) → length (placed x ys) ≡ suc (length ys)
length-placed x [] = refl
length-placed x (y ∷ ys) = either (is_before x y) (λ e. ap (λ t. length (if t then x ∷ y ∷ ys else y ∷ placed x ys)) e)
    (λ e. ap (λ t. length (if t then x ∷ y ∷ ys else y ∷ placed x ys)) e ∙ ap suc (length-placed x ys))

-- in order there are as many items
pub length-ordered : (xs : List Item) → length (ordered xs) ≡ length xs
length-ordered [] = refl
length-ordered (x ∷ xs) = length-placed x (ordered xs) ∙ ap suc (length-ordered xs)

-- in new cells each slot stands nowhere
places-new : (cap slot : ℕ) → slot < cap → slice_index (places_of (replicate cap (unused_cell cap))) slot ≡ cap
places-new cap slot inside =
    place_in (replicate cap (unused_cell cap)) slot ∙ ap (λ (c : Cell). c.at) (get_or-replicate cap slot (unused_cell cap) (unused_cell 0) inside)

-- new cells are an empty heap
pub new_kept : (cap : ℕ) → cap ≤ 8192 → AreKept (replicate cap (unused_cell cap)) 0
new_kept cap small =
    let cells = replicate cap (unused_cell cap) in let count : length cells ≡ cap = length-replicate cap (unused_cell cap) in
    let long : length (places_of cells) ≡ cap = places_len cells ∙ count in record {
      small = omega (arith, count);
      within = omega arith;
      heap = λ i pos below. absurd (omega arith);
      indexed = record {
        slots = λ i below. absurd (omega arith);
        stands = λ i below. absurd (omega arith);
        present = λ s inside below. absurd (omega arith);
        absent = λ s inside late. places-new cap s (omega arith) ∙ sym long;
      };
    }
