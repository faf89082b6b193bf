-- As many empty heaps were made as turns were taken.
use Rattle.std.proofs.Common.{◌≡◌, length}
use Rattle.std.specs.List.{AllByRecursion}
use Rattle.place_heap.specs.Heaps.{IsEmpty}
use Rattle.place_heap.proofs.heaps.PlaceHeaps.open.Given as goal

abbrev pub invariant-loop : goal.invariant-loop
invariant-loop l = record {
  made : length l.heaps.list ≡ l.counter;
  empty : AllByRecursion (IsEmpty l.fn.cap) l.heaps.list;
  many : l.heaps.many ≡ l.fn.many;
  cap : l.heaps.cap ≡ l.fn.cap;
}
