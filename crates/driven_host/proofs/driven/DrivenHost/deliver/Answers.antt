use Rattle.std.proofs.Common.{refl}
use Rattle.host_view.specs.Marks.{has_ran}
use Rattle.driven_host.proofs.DrivenSteps.{stepped, delivered, asked_once}
use Rattle.driven_host.proofs.driven.DrivenHost.deliver.Goals as goal

pub invariant_of-self : goal.invariant_of-self
invariant_of-self c =
    stepped c.self.inside.host c.deliver.new.self c.self.inside.suite c.deliver.new.service c.self.inside.out c.deliver.new.out c.self.inside.id
    c.self.inside.hosts c.self.inside.steps
    c.self.invariant (c.if-not-may_begin.ensures.0 refl).few c.deliver.ensures.steady
    (asked_once c.deliver.result (has_ran c.deliver.new.self.marks) c.self.inside.suite c.deliver.new.service c.deliver.ensures.served
    c.deliver.ensures.not_served)
    (delivered c.deliver.result c.self.inside.host c.deliver.new.self _ c.deliver.new.out c.deliver.new.scratch c.deliver.ensures.answered
    c.deliver.ensures.step c.deliver.ensures.same)
