-- What isn't missing has arrived.
use Rattle.std.proofs.Common.{◌-◌, arith}
use Rattle.plain_sets.proofs.CountLaws.{len-below}
use Rattle.homa_in.proofs.TakenLaws.{is_seen, arrived-seen}
use Rattle.homa_in.proofs.arriving.Incoming.arrived.Goals as goal

pub overflow_sub-result : goal.overflow_sub-result
overflow_sub-result c = omega (arith, c.count.ensures.value, len-below c.self.inside.missing c.self.inside.len c.self.invariant.below)

pub returns-clause-value : goal.returns-clause-value
returns-clause-value c = rw (← c.self.view_is) (omega (arith, c.count.ensures.value, len-below c.self.inside.missing c.self.inside.len c.self.invariant.below))

pub returns-clause-seen : goal.returns-clause-seen
returns-clause-seen c = λ pool inside.
    arrived-seen pool c.args.self.now (is_seen pool _ c.args.self.now c.self.view_is inside c.self.invariant) (c.self.inside.len - c.count.result)
    (returns-clause-value c)
