-- What was put back lies behind what is to be.
use Rattle.std.proofs.Common.{◌≡◌, ◌+◌, length}
use Rattle.place_heap.specs.declared.cells.Base.{Base}
use Rattle.place_heap.specs.Heaps.{AreBefore}
use Rattle.place_heap.proofs.heaps.gather.Given as goal

-- a base at the front of its block
abbrev front : Base → Base
front base = record base { first = 0 }

abbrev pub invariant-loop-heap : goal.invariant-loop-heap
invariant-loop-heap l = record {
  before : AreBefore l.heaps.items l.pile.base l.pile.len l.pile.strips;
  base : front l.pile.base ≡ front l.fn.pile.base;
  len : l.pile.len ≡ l.fn.pile.len;
  many : length l.heaps.items + length l.pile.strips ≡ length l.fn.heaps.items + length l.fn.pile.strips;
}

abbrev pub decreases-loop-heap : goal.decreases-loop-heap
decreases-loop-heap l = goal.left-loop-heap l
