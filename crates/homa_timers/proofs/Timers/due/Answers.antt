use Rattle.std.proofs.Common.{ap, ◌∙◌, ◌↔◌, IsNone, IfSome, length, ◌<◌, subst}
use Rattle.std.specs.Option.{option_map}
use Rattle.plain_sets.specs.Ordered.{first_of}
use Rattle.place_heap.specs.Order as heap
use Rattle.place_heap.specs.Held.{list_of}
use Rattle.homa_plain.specs.Timers.{due}
use Rattle.homa_timers.specs.Armed.{Armed, timer_key, NoneDue}
use Rattle.homa_timers.proofs.Firsts.{due_slot, due-first, due-none, due-within}
use Rattle.homa_timers.proofs.Timers.due.Goals as goal

pub returns-in_err-slot-clause-first : goal.returns-in_err-slot-clause-first
returns-in_err-slot-clause-first c =
    c.from_residual.ensures ∙ ap (due_slot c.args.now) c.in_err-slot.ensures
    ∙ due-first c.args.now (list_of c.self.inside.heap) c.self.invariant.in_order c.self.invariant.orders
    ∙ ap (λ (a : Armed). option_map (λ t. t.slot) (first_of (due timer_key c.args.now a.timers))) c.self.view_is

pub returns-in_err-slot-clause-none : goal.returns-in_err-slot-clause-none
returns-in_err-slot-clause-none c =
    let is = c.from_residual.ensures ∙ ap (due_slot c.args.now) c.in_err-slot.ensures in
    rw is (subst (λ (a : Armed). IsNone (due_slot c.args.now (heap.first_of (list_of c.self.inside.heap))) ↔ NoneDue c.args.now a.timers)
    c.self.view_is (due-none c.args.now (list_of c.self.inside.heap) c.self.invariant.in_order))

pub returns-clause-first : goal.returns-clause-first
returns-clause-first c =
    c.then_some.ensures ∙ ap (due_slot c.args.now) c.in_ok-slot.ensures
    ∙ due-first c.args.now (list_of c.self.inside.heap) c.self.invariant.in_order c.self.invariant.orders
    ∙ ap (λ (a : Armed). option_map (λ t. t.slot) (first_of (due timer_key c.args.now a.timers))) c.self.view_is

pub returns-clause-none : goal.returns-clause-none
returns-clause-none c =
    let is = c.then_some.ensures ∙ ap (due_slot c.args.now) c.in_ok-slot.ensures in
    rw is (subst (λ (a : Armed). IsNone (due_slot c.args.now (heap.first_of (list_of c.self.inside.heap))) ↔ NoneDue c.args.now a.timers)
    c.self.view_is (due-none c.args.now (list_of c.self.inside.heap) c.self.invariant.in_order))

pub returns-clause-within : goal.returns-clause-within
returns-clause-within c =
    let is = c.then_some.ensures ∙ ap (due_slot c.args.now) c.in_ok-slot.ensures in
    rw is (subst (λ (a : Armed). IfSome (due_slot c.args.now (heap.first_of (list_of c.self.inside.heap))) (λ slot. slot < a.slots)) c.self.view_is
    (due-within c.args.now (length c.self.inside.heap.cells) (list_of c.self.inside.heap) c.self.invariant.within))
