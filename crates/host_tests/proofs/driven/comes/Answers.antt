use Rattle.std.proofs.Common.{refl}
use Rattle.host_view.specs.Marks.{has_ran}
use Rattle.driven_host.proofs.DrivenSteps.{stepped, delivered, asked_once}
use Rattle.host_tests.proofs.driven.comes.Goals as goal

pub returns-clause-kept : goal.returns-clause-kept
returns-clause-kept g c =
    let it = c.args.it.now in
    let kept =
    stepped it.host c.deliver.new.self it.service.then.served c.deliver.new.service.then.served it.out c.deliver.new.out it.host.host.id 2 c.args.steps
    c.requires.kept c.requires.few c.deliver.ensures.steady
    (asked_once c.deliver.result (has_ran c.deliver.new.self.marks) it.service.then.served c.deliver.new.service.then.served c.deliver.ensures.served
    c.deliver.ensures.not_served)
    (delivered c.deliver.result it.host c.deliver.new.self _ c.deliver.new.out c.deliver.new.scratch c.deliver.ensures.answered c.deliver.ensures.step
    c.deliver.ensures.same) in
    record { name = refl; hosts_are = kept.hosts_are; order = kept.order; served_few = kept.served_few; few = kept.few; sent = kept.sent }
