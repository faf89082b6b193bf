use Rattle.homa_timers.proofs.Kept.{disarmed-timers, disarmed-sound}
use Rattle.homa_timers.proofs.Timers.disarm.Goals as goal

pub invariant_of-self : goal.invariant_of-self
invariant_of-self c =
    disarmed-sound c.self.inside.heap c.take_out.new.heap c.args.self.now c.self.view_is c.take_out.ensures.cap c.args.slot c.take_out.ensures.list
    c.self.invariant

pub returns-clause-timers : goal.returns-clause-timers
returns-clause-timers c =
    disarmed-timers c.self.inside.heap c.take_out.new.heap c.args.self.now c.self.view_is c.take_out.ensures.cap c.args.slot c.take_out.ensures.list

pub returns-clause-sound : goal.returns-clause-sound
returns-clause-sound c = invariant_of-self c
