-- A lease that was just taken is the pool's.
use Rattle.msg_pool.proofs.Leases.{lease-taken}
use Rattle.bench_pool.proofs.messages.fills.Goals as goal

pub put-requires-clause-lease : goal.put-requires-clause-lease
put-requires-clause-lease c = lease-taken _ c.take.new.self c.in-Ok.lease 1000000 c.in-Ok.ensures.len c.in-Ok.ensures.zeros
