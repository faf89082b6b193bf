use Rattle.std.proofs.Common.{◌≡◌, length}
use Rattle.bench_pool.proofs.copies.copy_pieces.Given as goal

abbrev pub invariant-pieces : goal.invariant-pieces
invariant-pieces l = length l.to ≡ 1000000
