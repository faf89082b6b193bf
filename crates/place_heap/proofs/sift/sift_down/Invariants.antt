use Rattle.std.proofs.Common.{◌≡◌, ℕ, ◌<◌, ◌≤◌, ◌+◌, ◌-◌, ◌*◌, ◌^◌, length, take}
use Rattle.place_heap.specs.Order.{ordered}
use Rattle.place_heap.specs.Held.{items_of}
use Rattle.place_heap.specs.Sifted.{CanSiftDown}
use Rattle.place_heap.proofs.sift.sift_down.Given as goal

abbrev pub invariant-down : goal.invariant-down
invariant-down g l = record {
  can : CanSiftDown l.cells.list l.len l.i (l.slot, l.key);
  same_len : length l.cells.list ≡ length l.fn.cells.list;
  spot : l.cells.spot ≡ l.fn.cells.spot;
  list : ordered (take l.len (items_of l.cells.list)) ≡ ordered (take l.len (items_of l.fn.cells.list));
  cost : (b : ℕ) → l.len < 2 ^ b → (c : ℕ) × (l.len < (l.i + 1) * 2 ^ c) × (l.steps + 10 * c ≤ l.fn.steps + 10 * b);
}

abbrev pub decreases-down : goal.decreases-down
decreases-down g l = l.len - l.i
