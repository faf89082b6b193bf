-- The first lease lasts.
use Rattle.msg_pool.specs.Pool.{IsLeaseOf}
use Rattle.msg_pool.proofs.Leases.{after_take}
use Rattle.sets_tests.proofs.pool.take_others.Goals as goal

pub returns : goal.returns
returns g c =
    let kept : IsLeaseOf c.take.new.self c.args.first.now =
    after_take c.take.result c.args.pool.now c.take.new.self c.args.first.now 4097 c.take.ensures.fresh
    c.take.ensures.zeros c.take.ensures.same c.requires in
    after_take c.take-2.result c.take.new.self c.take-2.new.self c.args.first.now 1 c.take-2.ensures.fresh
    c.take-2.ensures.zeros c.take-2.ensures.same kept

pub returns-in_err-second : goal.returns-in_err-second
returns-in_err-second g c =
    after_take c.take.result c.args.pool.now c.take.new.self c.args.first.now 4097 c.take.ensures.fresh c.take.ensures.zeros
    c.take.ensures.same c.requires
