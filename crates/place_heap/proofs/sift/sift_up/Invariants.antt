use Rattle.std.proofs.Common.{◌≡◌, ℕ, ◌<◌, ◌≤◌, ◌+◌, ◌*◌, ◌^◌, length, take}
use Rattle.place_heap.specs.Order.{ordered}
use Rattle.place_heap.specs.Held.{items_of}
use Rattle.place_heap.specs.Sifted.{CanSiftUp}
use Rattle.place_heap.proofs.sift.sift_up.Given as goal

abbrev pub invariant-up : goal.invariant-up
invariant-up g l = record {
  can : CanSiftUp l.cells.list l.len l.i (l.slot, l.key);
  same_len : length l.cells.list ≡ length l.fn.cells.list;
  spot : l.cells.spot ≡ l.fn.cells.spot;
  list : ordered (take l.len (items_of l.cells.list)) ≡ ordered (take l.len (items_of l.fn.cells.list));
  cost : (b : ℕ) → l.from < 2 ^ b → (c : ℕ) × (l.i < 2 ^ c) × (l.steps + 9 * c ≤ l.fn.steps + 9 * b);
}

abbrev pub decreases-up : goal.decreases-up
decreases-up g l = l.i
