-- Both leases last.
use Rattle.std.proofs.Common.{arith}
use Rattle.msg_pool.specs.Pool.{IsLeaseOf}
use Rattle.msg_pool.proofs.Leases.{lease-taken, after_take, after_write}
use Rattle.sets_tests.proofs.pool.write_long.Goals as goal

pub write-requires-clause-lease : goal.write-requires-clause-lease
write-requires-clause-lease c =
    lease-taken c.args.pool.now c.take.new.self c.in_ok-right.right 4104 c.in_ok-right.ensures.len c.in_ok-right.ensures.zeros

pub returns-in_err-right-clause-left : goal.returns-in_err-right-clause-left
returns-in_err-right-clause-left c =
    after_take c.take.result c.args.pool.now c.take.new.self c.args.left.now 4104 c.take.ensures.fresh c.take.ensures.zeros
    c.take.ensures.same c.requires

pub returns-clause-left : goal.returns-clause-left
returns-clause-left c =
    let left : IsLeaseOf c.take.new.self c.args.left.now =
    after_take c.take.result c.args.pool.now c.take.new.self c.args.left.now 4104 c.take.ensures.fresh
    c.take.ensures.zeros c.take.ensures.same c.requires in
    let right : IsLeaseOf c.take.new.self c.in_ok-right.right =
    lease-taken c.args.pool.now c.take.new.self c.in_ok-right.right 4104 c.in_ok-right.ensures.len c.in_ok-right.ensures.zeros in
    after_write c.take.new.self c.write.new.self c.in_ok-right.right c.args.left.now 4090 _
    (omega (arith, c.in_ok-right.ensures.len)) right c.write.ensures left

pub returns-clause-lease : goal.returns-clause-lease
returns-clause-lease c =
    let right : IsLeaseOf c.take.new.self c.in_ok-right.right =
    lease-taken c.args.pool.now c.take.new.self c.in_ok-right.right 4104 c.in_ok-right.ensures.len c.in_ok-right.ensures.zeros in
    after_write c.take.new.self c.write.new.self c.in_ok-right.right c.in_ok-right.right 4090 _
    (omega (arith, c.in_ok-right.ensures.len)) right c.write.ensures right
