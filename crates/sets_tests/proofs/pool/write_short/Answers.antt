-- The lease lasts.
use Rattle.std.proofs.Common.{arith}
use Rattle.msg_pool.specs.Pool.{IsLeaseOf}
use Rattle.msg_pool.proofs.Leases.{lease-taken, after_write}
use Rattle.sets_tests.proofs.pool.write_short.Goals as goal

pub write-requires-clause-lease : goal.write-requires-clause-lease
write-requires-clause-lease c = lease-taken c.args.pool.now c.take.new.self c.in_ok-left.left 4 c.in_ok-left.ensures.len c.in_ok-left.ensures.zeros

pub returns-clause-lease : goal.returns-clause-lease
returns-clause-lease c =
    let taken : IsLeaseOf c.take.new.self c.in_ok-left.left =
    lease-taken c.args.pool.now c.take.new.self c.in_ok-left.left 4 c.in_ok-left.ensures.len c.in_ok-left.ensures.zeros in
    after_write c.take.new.self c.write.new.self c.in_ok-left.left c.in_ok-left.left 1 _
    (omega (arith, c.in_ok-left.ensures.len)) taken c.write.ensures taken
