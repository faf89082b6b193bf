use Rattle.std.proofs.Common.{◌≡◌, Some, None, length, subst, sym, ap, ◌∙◌, arith}
use Rattle.homa_plain.specs.Steps.{start_fault, call_step}
use Rattle.host_view.specs.Done.{IsDone}
use Rattle.driven_host.specs.Driven.{Driven, MayBegin}
use Rattle.driven_host.specs.Faults.{request_fault}
use Rattle.driven_host.proofs.AskingSteps.{stepped, called}
use Rattle.driven_host.proofs.Rest.{call_rests, after_call}
use Rattle.driven_host.proofs.Starting.{no_cause, spent}
use Rattle.driven_host.proofs.asking.AskingHost.call.Goals as goal

pub invariant_of-self : goal.invariant_of-self
invariant_of-self c =
    let d = c.self.inside in
    let a = c.args in
    let begins = subst (λ (y : Driven). MayBegin y.host y.steps a.now) (sym c.self.view_is) c.in_default.ensures.may_call.begins in
    stepped d.host c.call.new.self d.served d.served d.out c.call.new.out d.id d.hosts d.calls d.pages d.steps
    c.self.invariant begins.few c.call.ensures.steady (omega arith)
    (called c.call.result d.host c.call.new.self _ c.call.new.out c.call.ensures.step c.call.ensures.same)
    (after_call d.host c.call.new.self c.call.new.out a.now begins.now_is c.call.result _
    (call_rests d.host.settings d.host.host a.now a.server a.number a.request.items) c.call.ensures.step c.call.ensures.last c.call.ensures.same
    c.self.invariant.rest)

pub invariant_of-self-2 : goal.invariant_of-self-2
invariant_of-self-2 c =
    let d = c.self.inside in
    let a = c.args in
    let begins = subst (λ (y : Driven). MayBegin y.host y.steps a.now) (sym c.self.view_is) c.in_default.ensures.may_call.begins in
    stepped d.host c.call.new.self d.served d.served d.out c.call.new.out d.id d.hosts d.calls d.pages d.steps
    c.self.invariant begins.few c.call.ensures.steady (omega arith)
    (called c.call.result d.host c.call.new.self _ c.call.new.out c.call.ensures.step c.call.ensures.same)
    (after_call d.host c.call.new.self c.call.new.out a.now begins.now_is c.call.result _
    (call_rests d.host.settings d.host.host a.now a.server a.number a.request.items) c.call.ensures.step c.call.ensures.last c.call.ensures.same
    c.self.invariant.rest)

pub returns-in_default-call-clause-fault : goal.returns-in_default-call-clause-fault
returns-in_default-call-clause-fault c =
    let a = c.args in
    let x = a.self.now in
    let none : request_fault x.host x.steps a.server (length a.request.items) a.now ≡ None =
    ap (λ n. request_fault x.host x.steps a.server n a.now) (sym (c.len.ensures ∙ a.request.ok.0)) ∙ sym c.request_fault.ensures.fault ∙ c.in_default.is in
    spent x.host x.steps a.server a.request.items a.now none c.in_default-call.field-0.0
    (subst (λ (y : Driven). start_fault y.host.settings y.host.host a.server a.request.items ≡ Some c.in_default-call.field-0.0) c.self.view_is
    c.in_default-call.ensures.fault)

pub returns-clause-no_fault : goal.returns-clause-no_fault
returns-clause-no_fault c =
    let a = c.args in
    let x = a.self.now in
    let none : request_fault x.host x.steps a.server (length a.request.items) a.now ≡ None =
    ap (λ n. request_fault x.host x.steps a.server n a.now) (sym (c.len.ensures ∙ a.request.ok.0)) ∙ sym c.request_fault.ensures.fault ∙ c.in_default.is in
    no_cause x.host x.steps a.server a.request.items a.now none
    (subst (λ (y : Driven). start_fault y.host.settings y.host.host a.server a.request.items ≡ None) c.self.view_is c.in-Ok.ensures.no_fault)

pub returns-clause-step : goal.returns-clause-step
returns-clause-step c =
    let a = c.args in
    subst (λ (d : Driven). IsDone d.host (call_step d.host.settings d.host.host a.now a.server a.number a.request.items) c.call.new.self c.call.new.out
    c.set.new.self)
    c.self.view_is (c.in-Ok.ensures.step c.set.new.self)
