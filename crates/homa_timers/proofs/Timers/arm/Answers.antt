use Rattle.place_heap.specs.Order.{Item}
use Rattle.homa_timers.proofs.Kept.{armed-timers, armed-sound}
use Rattle.homa_timers.proofs.Timers.arm.Goals as goal

pub invariant_of-self : goal.invariant_of-self
invariant_of-self c =
    let x : Item = (c.args.slot, record { first = c.args.at; second = c.args.order }) in
    armed-sound c.self.inside.heap c.put.new.heap c.args.self.now c.self.view_is c.put.ensures.cap x c.put.ensures.list c.requires.order
    c.requires.slot c.self.invariant

pub returns-clause-timers : goal.returns-clause-timers
returns-clause-timers c =
    let x : Item = (c.args.slot, record { first = c.args.at; second = c.args.order }) in
    armed-timers c.self.inside.heap c.put.new.heap c.args.self.now c.self.view_is c.put.ensures.cap x c.put.ensures.list c.requires.order

pub returns-clause-sound : goal.returns-clause-sound
returns-clause-sound c = invariant_of-self c
