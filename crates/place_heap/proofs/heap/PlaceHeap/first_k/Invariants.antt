use Rattle.std.proofs.Common.{ℕ, ◌+◌, ◌-◌, ◌*◌, ◌≤◌, length, Bool}
use Rattle.place_heap.specs.Held.{items_of}
use Rattle.place_heap.proofs.Fronts.{IsFront}
use Rattle.place_heap.proofs.heap.PlaceHeap.first_k.Given as goal

abbrev pub invariant-pops : goal.invariant-pops
invariant-pops g l = record {
  few : length l.out.items ≤ l.k;
  room : length l.front.items ≤ length l.out.items + 1;
  state : (popped : ℕ → Bool) × IsFront (items_of l.self-inside.cells.list) l.self-inside.len l.front.items l.out.items popped;
  cost : l.steps ≤ l.fn.steps + 1 + 2 * length l.out.items;
}

abbrev pub decreases-pops : goal.decreases-pops
decreases-pops g l = l.k - length l.out.items
