use Rattle.std.proofs.Common.{[], subst, arith}
use Rattle.homa_plain.specs.Steps.{turn_step}
use Rattle.host_view.specs.Done.{IsDone}
use Rattle.driven_host.specs.Driven.{Driven}
use Rattle.driven_host.proofs.AskingSteps.{stepped}
use Rattle.driven_host.proofs.Rest.{turn_rests, after}
use Rattle.driven_host.proofs.asking.AskingHost.turn.Goals as goal

pub invariant_of-self : goal.invariant_of-self
invariant_of-self c =
    let d = c.self.inside in
    let e = c.turn.ensures in
    let begins = c.in_default.ensures.begins in
    let done = e.step [] in
    stepped d.host c.turn.new.self d.served d.served d.out c.turn.new.out d.id d.hosts d.calls d.pages d.steps
    c.self.invariant begins.few e.steady (omega arith) done.sent
    (after d.host c.turn.new.self c.turn.new.out c.args.now begins.now_is _ [] (turn_rests d.host.settings d.host.host c.args.now) done e.last)

pub returns-clause-step : goal.returns-clause-step
returns-clause-step c =
    subst (λ (d : Driven). IsDone d.host (turn_step d.host.settings d.host.host c.args.now) c.turn.new.self c.turn.new.out c.set.new.self)
    c.self.view_is (c.turn.ensures.step c.set.new.self)
