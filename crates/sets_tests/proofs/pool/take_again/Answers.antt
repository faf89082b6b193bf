use Rattle.msg_pool.proofs.Leases.{lease-taken}
use Rattle.sets_tests.proofs.pool.take_again.Goals as goal

pub copy_out-requires-clause-lease : goal.copy_out-requires-clause-lease
copy_out-requires-clause-lease g c =
    lease-taken c.give.new.self c.take.new.self c.in_ok-third.third 1 c.in_ok-third.ensures.len c.in_ok-third.ensures.zeros
