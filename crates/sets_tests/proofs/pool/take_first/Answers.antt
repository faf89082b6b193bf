-- The lease lasts.
use Rattle.std.proofs.Common.{arith, [], ◌∷◌}
use Rattle.msg_pool.specs.Pool.{IsLeaseOf}
use Rattle.msg_pool.proofs.Leases.{lease-taken, after_write}
use Rattle.sets_tests.proofs.pool.take_first.Goals as goal

pub write-requires-clause-lease : goal.write-requires-clause-lease
write-requires-clause-lease g c =
    lease-taken c.args.pool.now c.take.new.self c.in_ok-first.first 4096 c.in_ok-first.ensures.len c.in_ok-first.ensures.zeros

pub returns : goal.returns
returns g c =
    let taken : IsLeaseOf c.take.new.self c.in_ok-first.first =
    lease-taken c.args.pool.now c.take.new.self c.in_ok-first.first 4096 c.in_ok-first.ensures.len c.in_ok-first.ensures.zeros in
    after_write c.take.new.self c.write.new.self c.in_ok-first.first c.in_ok-first.first 0 (111 ∷ 108 ∷ 100 ∷ [])
    (omega (arith, c.in_ok-first.ensures.len)) taken c.write.ensures taken
