use Rattle.std.proofs.Common.{ℕ, length, max, sym, ap, subst, ◌≡◌, ◌<◌, ◌≤◌, ◌∙◌, arith}
use Rattle.std.specs.Prelude.{slice_index}
use Rattle.place_heap.specs.Order.{Item, placed, without, bits}
use Rattle.place_heap.specs.Held.{Held, at, items_of, places_of, list_of}
use Rattle.place_heap.specs.Sifted.{MayMove}
use Rattle.place_heap.proofs.Costs.{below_bits}
use Rattle.place_heap.proofs.Moves.{places_len}
use Rattle.place_heap.proofs.Kept.{rekeyed_moves, kept_again}
use Rattle.place_heap.proofs.Lists.{key_same, list_after_same, list_after_update}
use Rattle.place_heap.proofs.heap.PlaceHeap.rekey.Goals as goal

pub sift-requires : goal.sift-requires
sift-requires g c =
    let cells = c.self.inside.cells.list in let len = c.self.inside.len in let slot = c.args.slot in let x : Item = (slot, c.args.key) in
    let is = subst (λ (h : Held). c.args.place ≡ slice_index (places_of h.cells) slot) (sym c.self.view_is) c.requires.place in
    let low : slot < length cells = subst (λ (h : Held). slot < length h.cells) (sym c.self.view_is) c.requires.slot in
    let inside : slot < length (places_of cells) = omega (arith, low, places_len cells) in
    let held : c.args.place < len = subst (λ (h : Held). c.args.place < h.len) (sym c.self.view_is) c.requires.held in
    let here : slice_index (places_of cells) slot < len = omega (arith, held, is) in
    let lies = c.item_at.ensures.item ∙ ap (at (items_of cells)) is in
    let had : (slot, c.item_at.result.1) ≡ at (items_of cells) (slice_index (places_of cells) slot) =
    (λ j. (sym (c.self.invariant.indexed.present slot inside here) j, (lies j).1)) in
    subst (λ (p : ℕ). MayMove c.put_item.new.cells.list len p (slot, c.item_at.result.1) x) (sym is)
    (subst (λ (y : Item). MayMove c.put_item.new.cells.list len (slice_index (places_of cells) slot) y x) (sym had)
    (rekeyed_moves cells c.put_item.new.cells.list len x c.self.invariant inside here
    (rw (← is) c.put_item.ensures.items) c.put_item.ensures.places c.put_item.ensures.len))

pub returns-then-eq-clause-list : goal.returns-then-eq-clause-list
returns-then-eq-clause-list g c =
    let cells = c.self.inside.cells.list in let len = c.self.inside.len in let slot = c.args.slot in let x : Item = (slot, c.args.key) in
    let is = subst (λ (h : Held). c.args.place ≡ slice_index (places_of h.cells) slot) (sym c.self.view_is) c.requires.place in
    let low : slot < length cells = subst (λ (h : Held). slot < length h.cells) (sym c.self.view_is) c.requires.slot in
    let held : c.args.place < len = subst (λ (h : Held). c.args.place < h.len) (sym c.self.view_is) c.requires.held in
    subst (λ (h : Held). list_of h ≡ placed x (without slot (list_of h))) c.self.view_is
    (list_after_same cells len x c.item_at.result c.self.invariant (omega (arith, low, places_len cells)) (omega (arith, held, is))
    (c.item_at.ensures.item ∙ ap (at (items_of cells)) is) (key_same _ _ c.if-eq.ensures))

pub invariant_of-self : goal.invariant_of-self
invariant_of-self g c =
    kept_again c.put_item.new.cells.list c.sift.new.cells.list c.self.inside.len (omega (arith, c.self.invariant.small, c.put_item.ensures.len))
    (omega (arith, c.self.invariant.within, c.put_item.ensures.len))
    c.sift.ensures.sifted

pub returns-clause-list : goal.returns-clause-list
returns-clause-list g c =
    let cells = c.self.inside.cells.list in let len = c.self.inside.len in let slot = c.args.slot in let x : Item = (slot, c.args.key) in
    let is = subst (λ (h : Held). c.args.place ≡ slice_index (places_of h.cells) slot) (sym c.self.view_is) c.requires.place in
    let low : slot < length cells = subst (λ (h : Held). slot < length h.cells) (sym c.self.view_is) c.requires.slot in
    let held : c.args.place < len = subst (λ (h : Held). c.args.place < h.len) (sym c.self.view_is) c.requires.held in
    list_after_update cells c.put_item.new.cells.list c.sift.new.cells.list len x c.self.invariant (omega (arith, low, places_len cells))
    (omega (arith, held, is)) (rw (← is) c.put_item.ensures.items) c.put_item.ensures.places c.put_item.ensures.len c.sift.ensures.sifted
    ∙ ap (λ h. placed x (without slot (list_of h))) c.self.view_is

pub returns-clause-kept : goal.returns-clause-kept
returns-clause-kept g c = invariant_of-self g c

pub returns-clause-steps : goal.returns-clause-steps
returns-clause-steps g c =
    let n : ℕ = max c.args.self.now.len c.self.inside.len in
    let few : c.self.inside.len ≤ n = omega arith in
    omega (arith, c.item_at.ensures.steps, c.put_item.ensures.steps, c.sift.ensures.steps (bits n) (omega (arith, below_bits n)))
