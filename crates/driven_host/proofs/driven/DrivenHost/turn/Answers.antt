use Rattle.std.proofs.Common.{[], subst, arith, refl}
use Rattle.homa_plain.specs.Steps.{turn_step}
use Rattle.host_view.specs.Done.{IsDone}
use Rattle.driven_host.specs.Driven.{Driven}
use Rattle.driven_host.proofs.DrivenSteps.{stepped}
use Rattle.driven_host.proofs.driven.DrivenHost.turn.Goals as goal

pub invariant_of-self : goal.invariant_of-self
invariant_of-self c =
    stepped c.self.inside.host c.turn.new.self c.self.inside.suite c.self.inside.suite c.self.inside.out c.turn.new.out c.self.inside.id
    c.self.inside.hosts c.self.inside.steps
    c.self.invariant (c.if-not-may_begin.ensures.0 refl).few c.turn.ensures.steady (omega arith) (c.turn.ensures.step []).sent

pub returns-clause-step : goal.returns-clause-step
returns-clause-step c =
    subst (λ (d : Driven). IsDone d.host (turn_step d.host.settings d.host.host c.args.now) c.turn.new.self c.turn.new.out c.self.inside.scratch) c.self.view_is
    (c.turn.ensures.step c.self.inside.scratch)
