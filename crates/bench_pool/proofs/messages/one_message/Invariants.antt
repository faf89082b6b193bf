use Rattle.std.proofs.Common.{◌≡◌}
use Rattle.homa_in.specs.Part.{IsIn}
use Rattle.bench_pool.proofs.messages.one_message.Given as goal

abbrev pub invariant-pieces : goal.invariant-pieces
invariant-pieces l = record { length : l.part.length ≡ 1000000; inside : IsIn l.pool l.part }
