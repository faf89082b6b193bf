use Rattle.place_heap.specs.Order.{Item}
use Rattle.homa_pacer.proofs.Kept.{ready-is, ready-sound}
use Rattle.homa_pacer.proofs.Pacer.ready.Goals as goal

pub invariant_of-self : goal.invariant_of-self
invariant_of-self c =
    let x : Item = (c.args.slot, record { first = c.args.left; second = c.args.order }) in let p = c.self.inside in
    let list = rw c.from.ensures at c.put.ensures.list in
    ready-sound p.heap c.put.new.heap p.rate p.credit p.refilled c.args.self.now c.self.view_is c.put.ensures.cap x list c.requires.order
    c.requires.slot c.self.invariant

pub returns-clause-ready : goal.returns-clause-ready
returns-clause-ready c =
    let x : Item = (c.args.slot, record { first = c.args.left; second = c.args.order }) in let p = c.self.inside in
    let list = rw c.from.ensures at c.put.ensures.list in
    ready-is p.heap c.put.new.heap p.rate p.credit p.refilled c.args.self.now c.self.view_is c.put.ensures.cap x list c.requires.order

pub returns-clause-sound : goal.returns-clause-sound
returns-clause-sound c = invariant_of-self c
