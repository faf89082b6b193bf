use Rattle.std.proofs.Common.{◌≡◌, ℕ, ◌<◌, length, false}
use Rattle.place_heap.specs.Order.{is_before}
use Rattle.place_heap.specs.Front.{candidate}
use Rattle.place_heap.proofs.front.least_of.Given as goal

abbrev pub invariant-loop-i : goal.invariant-loop-i
invariant-loop-i l = record {
  inside : l.best < length l.front;
  least : (j : ℕ) → j < l.i → is_before (candidate l.front j).item (candidate l.front l.best).item ≡ false;
}
