-- The lease lasts.
use Rattle.std.proofs.Common.{arith}
use Rattle.msg_pool.specs.Pool.{IsLeaseOf}
use Rattle.msg_pool.proofs.Leases.{lease-taken, after_write}
use Rattle.sets_tests.proofs.pool.fill.Goals as goal

pub write-requires-clause-lease : goal.write-requires-clause-lease
write-requires-clause-lease g c =
    lease-taken c.args.pool.now c.take.new.self c.in_ok-lease.lease 3 c.in_ok-lease.ensures.len c.in_ok-lease.ensures.zeros

pub fill-requires : goal.fill-requires
fill-requires g c =
    let taken : IsLeaseOf c.take.new.self c.in_ok-lease.lease =
    lease-taken c.args.pool.now c.take.new.self c.in_ok-lease.lease 3 c.in_ok-lease.ensures.len c.in_ok-lease.ensures.zeros in
    after_write c.take.new.self c.write.new.self c.in_ok-lease.lease c.in_ok-lease.lease 1 _
    (omega (arith, c.in_ok-lease.ensures.len)) taken c.write.ensures taken
