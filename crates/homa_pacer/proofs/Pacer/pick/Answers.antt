use Rattle.std.proofs.Common.{◌≡◌, ◌↔◌, ℕ, [], Option, Some, IsNone, IfSome, length, ◌<◌, sym, ap, subst, ◌∙◌}
use Rattle.std.specs.Option.{option_map}
use Rattle.place_heap.specs.Order as heap
use Rattle.place_heap.specs.Order.{Item}
use Rattle.place_heap.specs.Held.{list_of}
use Rattle.homa_plain.specs.SentNext.{least}
use Rattle.homa_pacer.specs.Pace.{Pace, ready_key}
use Rattle.homa_pacer.proofs.Firsts.{least-first, none-first, within-first}
use Rattle.homa_pacer.proofs.Pacer.pick.Goals as goal

pub returns-in_err-slot-clause-least : goal.returns-in_err-slot-clause-least
returns-in_err-slot-clause-least c =
    c.from_residual.ensures ∙ ap (option_map (λ (x : Item). x.0)) c.in_err-slot.ensures
    ∙ least-first (list_of c.self.inside.heap) c.self.invariant.in_order c.self.invariant.orders
    ∙ ap (λ (p : Pace). option_map (λ r. r.slot) (least ready_key p.ready)) c.self.view_is

pub returns-in_err-slot-clause-none : goal.returns-in_err-slot-clause-none
returns-in_err-slot-clause-none c =
    let is = c.from_residual.ensures ∙ ap (option_map (λ (x : Item). x.0)) c.in_err-slot.ensures in
    rw is (subst (λ (p : Pace). IsNone (option_map (λ (x : Item). x.0) (heap.first_of (list_of c.self.inside.heap))) ↔ (p.ready ≡ [])) c.self.view_is
    (none-first (list_of c.self.inside.heap)))

pub returns-clause-least : goal.returns-clause-least
returns-clause-least c =
    ap (option_map (λ (x : Item). x.0)) c.in_ok-slot.ensures
    ∙ least-first (list_of c.self.inside.heap) c.self.invariant.in_order c.self.invariant.orders
    ∙ ap (λ (p : Pace). option_map (λ r. r.slot) (least ready_key p.ready)) c.self.view_is

pub returns-clause-none : goal.returns-clause-none
returns-clause-none c =
    let is : Some c.in_ok-slot.slot ≡ option_map (λ (x : Item). x.0) (heap.first_of (list_of c.self.inside.heap)) =
    ap (option_map (λ (x : Item). x.0)) c.in_ok-slot.ensures in
    subst (λ (o : Option ℕ). IsNone o ↔ (c.args.self.now.ready ≡ [])) (sym is)
    (subst (λ (p : Pace). IsNone (option_map (λ (x : Item). x.0) (heap.first_of (list_of c.self.inside.heap))) ↔ (p.ready ≡ [])) c.self.view_is
    (none-first (list_of c.self.inside.heap)))

pub returns-clause-within : goal.returns-clause-within
returns-clause-within c =
    let is : Some c.in_ok-slot.slot ≡ option_map (λ (x : Item). x.0) (heap.first_of (list_of c.self.inside.heap)) =
    ap (option_map (λ (x : Item). x.0)) c.in_ok-slot.ensures in
    subst (λ (o : Option ℕ). IfSome o (λ slot. slot < c.args.self.now.slots)) (sym is)
    (subst (λ (p : Pace). IfSome (option_map (λ (x : Item). x.0) (heap.first_of (list_of c.self.inside.heap))) (λ slot. slot < p.slots))
    c.self.view_is (within-first (length c.self.inside.heap.cells) (list_of c.self.inside.heap) c.self.invariant.within))
