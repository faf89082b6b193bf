use Rattle.std.proofs.Common.{◌≡◌, length}
use Rattle.bench_heap.proofs.raw.by_heap.Given as goal

abbrev pub invariant-loop-change : goal.invariant-loop-change
invariant-loop-change g l = length l.heap.cells ≡ 8192
