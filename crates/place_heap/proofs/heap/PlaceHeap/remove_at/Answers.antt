use Rattle.std.proofs.Common.{◌≡◌, ℕ, length, max, set, sym, ap, subst, ◌<◌, ◌≤◌, ◌+◌, ◌-◌, ◌∙◌, arith}
use Rattle.std.specs.Prelude.{slice_index}
use Rattle.place_heap.specs.Order.{Item, without, bits}
use Rattle.place_heap.specs.Held.{Held, list_of, items_of, places_of, at, listed, AreKept}
use Rattle.place_heap.specs.Sifted.{MayMove}
use Rattle.place_heap.proofs.Costs.{below_bits}
use Rattle.place_heap.proofs.Moves.{places_len}
use Rattle.place_heap.proofs.Kept.{filled_moves, last_goes, kept_again}
use Rattle.place_heap.proofs.Lists.{list_after_remove, list_after_last}
use Rattle.place_heap.proofs.heap.PlaceHeap.remove_at.Goals as goal

pub sift-requires : goal.sift-requires
sift-requires g c =
    let cells = c.self.inside.cells.list in let p = c.args.place in let last : ℕ = c.self.inside.len - 1 in let item = c.item_at-last_slot.result in
    let is = subst (λ (h : Held). p ≡ slice_index (places_of h.cells) c.args.slot) (sym c.self.view_is) c.requires.place in
    let low : c.args.slot < length cells = subst (λ (h : Held). c.args.slot < length h.cells) (sym c.self.view_is) c.requires.slot in
    let held : p < c.self.inside.len = subst (λ (h : Held). p < h.len) (sym c.self.view_is) c.requires.held in
    let e : c.self.inside.len ≡ last + 1 = omega (arith, held) in
    let kept = subst (λ n. AreKept cells n) e c.self.invariant in
    let inside : c.args.slot < length (places_of cells) = omega (arith, low, places_len cells) in
    let items = c.place_item.ensures.items ∙ ap (λ l. set l p item) c.put_place.ensures.items in
    let places =
    c.place_item.ensures.places ∙ ap (λ l. set l item.0 p) (c.put_place.ensures.places ∙ ap (set (places_of cells) c.args.slot) c.cap-cap.ensures.len) in
    let count = c.place_item.ensures.len ∙ c.put_place.ensures.len in
    let lies = c.item_at.ensures.item ∙ ap (λ l. at l p) c.put_place.ensures.items in
    let there : (at (items_of cells) p).0 ≡ c.args.slot =
    ap (λ (n : ℕ). (at (items_of cells) n).0) is ∙ kept.indexed.present c.args.slot inside (omega (arith, held, is)) in
    let had : (c.args.slot, c.item_at.result.1) ≡ at (items_of cells) p = (λ j. (sym there j, (lies j).1)) in
    subst (λ (y : Item). MayMove c.place_item.new.cells.list last p y item) (sym had)
    (filled_moves cells c.place_item.new.cells.list last c.args.slot p item kept inside (sym is) c.if-place-last.true
    (sym c.item_at-last_slot.ensures.item) items places count)

pub invariant_of-self : goal.invariant_of-self
invariant_of-self g c =
    kept_again c.place_item.new.cells.list c.sift.new.cells.list (c.self.inside.len - 1)
    (omega (arith, c.self.invariant.small, c.place_item.ensures.len, c.put_place.ensures.len))
    (omega (arith, c.self.invariant.within, c.place_item.ensures.len, c.put_place.ensures.len)) c.sift.ensures.sifted

pub returns-then-place-last-clause-kept : goal.returns-then-place-last-clause-kept
returns-then-place-last-clause-kept g c = invariant_of-self g c

pub returns-then-place-last-clause-list : goal.returns-then-place-last-clause-list
returns-then-place-last-clause-list g c =
    let cells = c.self.inside.cells.list in let p = c.args.place in let last : ℕ = c.self.inside.len - 1 in let item = c.item_at-last_slot.result in
    let is = subst (λ (h : Held). p ≡ slice_index (places_of h.cells) c.args.slot) (sym c.self.view_is) c.requires.place in
    let low : c.args.slot < length cells = subst (λ (h : Held). c.args.slot < length h.cells) (sym c.self.view_is) c.requires.slot in
    let held : p < c.self.inside.len = subst (λ (h : Held). p < h.len) (sym c.self.view_is) c.requires.held in
    let e : c.self.inside.len ≡ last + 1 = omega (arith, held) in
    let kept = subst (λ n. AreKept cells n) e c.self.invariant in
    let inside : c.args.slot < length (places_of cells) = omega (arith, low, places_len cells) in
    let items = c.place_item.ensures.items ∙ ap (λ l. set l p item) c.put_place.ensures.items in
    let places =
    c.place_item.ensures.places ∙ ap (λ l. set l item.0 p) (c.put_place.ensures.places ∙ ap (set (places_of cells) c.args.slot) c.cap-cap.ensures.len) in
    let count = c.place_item.ensures.len ∙ c.put_place.ensures.len in
    list_after_remove cells c.place_item.new.cells.list c.sift.new.cells.list last c.args.slot p item kept inside
    (sym is) c.if-place-last.true (sym c.item_at-last_slot.ensures.item) items places count
    c.sift.ensures.sifted ∙ ap (λ n. without c.args.slot (listed cells n)) (sym e)
    ∙ ap (λ h. without c.args.slot (list_of h)) c.self.view_is

pub invariant_of-self-else-place-last : goal.invariant_of-self-else-place-last
invariant_of-self-else-place-last g c =
    let cells = c.self.inside.cells.list in let p = c.args.place in let last : ℕ = c.self.inside.len - 1 in let item = c.item_at-last_slot.result in
    let is = subst (λ (h : Held). p ≡ slice_index (places_of h.cells) c.args.slot) (sym c.self.view_is) c.requires.place in
    let low : c.args.slot < length cells = subst (λ (h : Held). c.args.slot < length h.cells) (sym c.self.view_is) c.requires.slot in
    let held : p < c.self.inside.len = subst (λ (h : Held). p < h.len) (sym c.self.view_is) c.requires.held in
    let e : c.self.inside.len ≡ last + 1 = omega (arith, held) in
    let kept = subst (λ n. AreKept cells n) e c.self.invariant in
    let inside : c.args.slot < length (places_of cells) = omega (arith, low, places_len cells) in
    let stood : slice_index (places_of cells) c.args.slot ≡ last = omega (arith, held, is, c.if-place-last.false) in
    last_goes cells c.put_place.new.cells.list last c.args.slot kept inside stood c.put_place.ensures.items
    (c.put_place.ensures.places ∙ ap (set (places_of cells) c.args.slot) c.cap-cap.ensures.len) c.put_place.ensures.len

pub returns-else-place-last-clause-kept : goal.returns-else-place-last-clause-kept
returns-else-place-last-clause-kept g c = invariant_of-self-else-place-last g c

pub returns-else-place-last-clause-list : goal.returns-else-place-last-clause-list
returns-else-place-last-clause-list g c =
    let cells = c.self.inside.cells.list in let p = c.args.place in let last : ℕ = c.self.inside.len - 1 in let item = c.item_at-last_slot.result in
    let is = subst (λ (h : Held). p ≡ slice_index (places_of h.cells) c.args.slot) (sym c.self.view_is) c.requires.place in
    let low : c.args.slot < length cells = subst (λ (h : Held). c.args.slot < length h.cells) (sym c.self.view_is) c.requires.slot in
    let held : p < c.self.inside.len = subst (λ (h : Held). p < h.len) (sym c.self.view_is) c.requires.held in
    let e : c.self.inside.len ≡ last + 1 = omega (arith, held) in
    let kept = subst (λ n. AreKept cells n) e c.self.invariant in
    let inside : c.args.slot < length (places_of cells) = omega (arith, low, places_len cells) in
    let stood : slice_index (places_of cells) c.args.slot ≡ last = omega (arith, held, is, c.if-place-last.false) in
    list_after_last cells c.put_place.new.cells.list last c.args.slot kept inside stood c.put_place.ensures.items
    (c.put_place.ensures.places ∙ ap (set (places_of cells) c.args.slot) c.cap-cap.ensures.len) c.put_place.ensures.len
    ∙ ap (λ n. without c.args.slot (listed cells n)) (sym e) ∙ ap (λ h. without c.args.slot (list_of h)) c.self.view_is

pub returns-then-place-last-clause-steps : goal.returns-then-place-last-clause-steps
returns-then-place-last-clause-steps g c =
    let n : ℕ = max c.args.self.now.len (c.self.inside.len - 1) in
    let few : c.self.inside.len - 1 ≤ n = omega arith in
    omega (
      arith,
      c.item_at-last_slot.ensures.steps,
      c.put_place.ensures.steps,
      c.item_at.ensures.steps,
      c.place_item.ensures.steps,
      c.sift.ensures.steps (bits n) (omega (arith, below_bits n)),
    )
