use Rattle.std.proofs.Common.{sym, subst}
use Rattle.homa_plain.specs.Steps.{arrival_step}
use Rattle.host_view.specs.Marks.{has_ran}
use Rattle.host_view.specs.Done.{IsDone, arriving}
use Rattle.driven_host.specs.Driven.{Driven, MayBegin}
use Rattle.driven_host.proofs.AskingSteps.{stepped, delivered, asked_once}
use Rattle.driven_host.proofs.Rest.{arrival_rests, after_delivery}
use Rattle.driven_host.proofs.Whole.{done_with}
use Rattle.driven_host.proofs.asking.AskingHost.deliver.Goals as goal

pub invariant_of-self : goal.invariant_of-self
invariant_of-self c =
    let d = c.self.inside in
    let a = c.args in
    let then = c.deliver-came.new in
    let e = c.deliver-came.ensures in
    let begins = subst (λ (y : Driven). MayBegin y.host y.steps a.now) (sym c.self.view_is) c.in_default.ensures.begins in
    stepped d.host then.self d.served then.service.served d.out then.out d.id d.hosts d.calls d.pages d.steps
    c.self.invariant begins.few e.steady
    (asked_once c.deliver-came.result (has_ran then.self.marks) d.served then.service.served e.served e.not_served)
    (delivered c.deliver-came.result d.host then.self _ then.out then.scratch e.answered e.step e.same)
    (after_delivery d.host then.self then.out a.now begins.now_is c.deliver-came.result _ then.scratch
    (arrival_rests d.host.settings d.host.host a.now (arriving d.host a.from a.frame.now)) e.answered e.step e.last e.same c.self.invariant.rest)

pub invariant_of-self-else-not-tells_whole : goal.invariant_of-self-else-not-tells_whole
invariant_of-self-else-not-tells_whole c =
    let d = c.self.inside in
    let a = c.args in
    let then = c.deliver-came.new in
    let e = c.deliver-came.ensures in
    let begins = subst (λ (y : Driven). MayBegin y.host y.steps a.now) (sym c.self.view_is) c.in_default.ensures.begins in
    stepped d.host then.self d.served then.service.served d.out then.out d.id d.hosts d.calls d.pages d.steps
    c.self.invariant begins.few e.steady
    (asked_once c.deliver-came.result (has_ran then.self.marks) d.served then.service.served e.served e.not_served)
    (delivered c.deliver-came.result d.host then.self _ then.out then.scratch e.answered e.step e.same)
    (after_delivery d.host then.self then.out a.now begins.now_is c.deliver-came.result _ then.scratch
    (arrival_rests d.host.settings d.host.host a.now (arriving d.host a.from a.frame.now)) e.answered e.step e.last e.same c.self.invariant.rest)

pub returns-then-not-tells_whole-clause-step : goal.returns-then-not-tells_whole-clause-step
returns-then-not-tells_whole-clause-step c taken =
    let a = c.args in
    let then = c.deliver-came.new in
    let e = c.in-Ok.ensures in
    let given = e.answered in (
      given.0,
      subst (λ (d : Driven). IsDone d.host (arrival_step d.host.settings d.host.host a.now (arriving d.host a.from a.frame.now) given.0) then.self
          then.out c.set.new.self) c.self.view_is
          (done_with then.self then.out then.scratch c.set.new.self c.self.inside.host _ (sym c.if-not-tells_whole.ensures) (e.step given.0 given.1)),
    )
