use Rattle.std.proofs.Common.{◌≡◌, length}
use Rattle.bench_pool.proofs.copies.copy_pieces_times.Given as goal

abbrev pub invariant-times : goal.invariant-times
invariant-times l = length l.to ≡ 1000000
