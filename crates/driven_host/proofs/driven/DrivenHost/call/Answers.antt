use Rattle.std.proofs.Common.{subst, arith, refl}
use Rattle.homa_plain.specs.Steps.{call_step}
use Rattle.host_view.specs.Done.{IsDone}
use Rattle.driven_host.specs.Driven.{Driven}
use Rattle.driven_host.proofs.DrivenSteps.{stepped, called}
use Rattle.driven_host.proofs.driven.DrivenHost.call.Goals as goal

pub invariant_of-self : goal.invariant_of-self
invariant_of-self c =
    stepped c.self.inside.host c.call.new.self c.self.inside.suite c.self.inside.suite c.self.inside.out c.call.new.out c.self.inside.id
    c.self.inside.hosts c.self.inside.steps
    c.self.invariant (c.if-not-may_begin.ensures.0 refl).few c.call.ensures.steady (omega arith)
    (called c.call.result c.self.inside.host c.call.new.self _ c.call.new.out c.call.ensures.step c.call.ensures.same)

pub invariant_of-self-2 : goal.invariant_of-self-2
invariant_of-self-2 c =
    stepped c.self.inside.host c.call.new.self c.self.inside.suite c.self.inside.suite c.self.inside.out c.call.new.out c.self.inside.id
    c.self.inside.hosts c.self.inside.steps
    c.self.invariant (c.if-not-may_begin.ensures.0 refl).few c.call.ensures.steady (omega arith)
    (called c.call.result c.self.inside.host c.call.new.self _ c.call.new.out c.call.ensures.step c.call.ensures.same)

pub returns-clause-step : goal.returns-clause-step
returns-clause-step c =
    subst (λ (d : Driven). IsDone d.host (call_step d.host.settings d.host.host c.args.now c.args.server c.args.number c.args.request.items)
    c.call.new.self c.call.new.out c.self.inside.scratch) c.self.view_is
    (c.in-Ok.ensures.step c.self.inside.scratch)
