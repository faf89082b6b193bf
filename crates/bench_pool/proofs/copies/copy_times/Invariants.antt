use Rattle.std.proofs.Common.{◌≡◌, length}
use Rattle.bench_pool.proofs.copies.copy_times.Given as goal

abbrev pub invariant-times : goal.invariant-times
invariant-times l = record { to : length l.to ≡ 1000000; from : length l.from ≡ 1000000 }
