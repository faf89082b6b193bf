use Rattle.homa_pacer.proofs.Kept.{idle-is, idle-sound}
use Rattle.homa_pacer.proofs.Pacer.idle.Goals as goal

pub invariant_of-self : goal.invariant_of-self
invariant_of-self c =
    let p = c.self.inside in
    idle-sound p.heap c.take_out.new.heap p.rate p.credit p.refilled c.args.self.now c.self.view_is c.take_out.ensures.cap c.args.slot
    c.take_out.ensures.list c.self.invariant

pub returns-clause-idle : goal.returns-clause-idle
returns-clause-idle c =
    let p = c.self.inside in
    idle-is p.heap c.take_out.new.heap p.rate p.credit p.refilled c.args.self.now c.self.view_is c.take_out.ensures.cap c.args.slot c.take_out.ensures.list

pub returns-clause-sound : goal.returns-clause-sound
returns-clause-sound c = invariant_of-self c
