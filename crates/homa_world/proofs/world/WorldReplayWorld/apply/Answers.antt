use Rattle.std.proofs.Common.{refl}
use Rattle.std.proofs.lemmas.Result.{on_ok_weaker}
use Rattle.homa_plain.specs.declared.event.Event.TheVariants as event
use Rattle.host_table.proofs.StageLaws.{if_err_weaker}
use Rattle.homa_world.proofs.BytesLaws.{applies_with, refuses_with}
use Rattle.homa_world.proofs.world.WorldReplayWorld.apply.Goals as goal

pub returns-in-Deliver-clause-done : goal.returns-in-Deliver-clause-done
returns-in-Deliver-clause-done g c =
    on_ok_weaker c.deliver.result
    (applies_with _ _ c.args.self.now c.self.inside.parts c.deliver.new.self c.self.view_is (event.Deliver c.in-Deliver.packet) c.args.event.now
    c.args.bytes.now c.in-Deliver.is refl) c.deliver.ensures.done

pub returns-in-Deliver-clause-fault : goal.returns-in-Deliver-clause-fault
returns-in-Deliver-clause-fault g c =
    if_err_weaker _ _ c.deliver.result
    (refuses_with (λ _. 0) (λ seat count number q r hold. Unit {0}) c.args.self.now c.self.inside.parts c.self.inside.parts c.self.view_is
    (event.Deliver c.in-Deliver.packet) c.args.event.now c.args.bytes.now c.in-Deliver.is refl) c.deliver.ensures.fault

pub returns-in-Clock-clause-done : goal.returns-in-Clock-clause-done
returns-in-Clock-clause-done g c =
    on_ok_weaker c.tick.result
    (applies_with _ _ c.args.self.now c.self.inside.parts c.tick.new.self c.self.view_is event.Clock c.args.event.now c.args.bytes.now c.in-Clock.is
    refl) c.tick.ensures.done

pub returns-in-Clock-clause-fault : goal.returns-in-Clock-clause-fault
returns-in-Clock-clause-fault g c =
    if_err_weaker _ _ c.tick.result
    (refuses_with (λ _. 0) (λ seat count number q r hold. Unit {0}) c.args.self.now c.self.inside.parts c.self.inside.parts c.self.view_is event.Clock
    c.args.event.now c.args.bytes.now c.in-Clock.is refl) c.tick.ensures.fault

pub returns-in-Turn-clause-done : goal.returns-in-Turn-clause-done
returns-in-Turn-clause-done g c =
    on_ok_weaker c.turn.result
    (applies_with _ _ c.args.self.now c.self.inside.parts c.turn.new.self c.self.view_is (event.Turn c.in-Turn.host) c.args.event.now c.args.bytes.now
    c.in-Turn.is refl) c.turn.ensures.done

pub returns-in-Turn-clause-fault : goal.returns-in-Turn-clause-fault
returns-in-Turn-clause-fault g c =
    if_err_weaker _ _ c.turn.result
    (refuses_with (λ _. 0) (λ seat count number q r hold. Unit {0}) c.args.self.now c.self.inside.parts c.self.inside.parts c.self.view_is
    (event.Turn c.in-Turn.host) c.args.event.now c.args.bytes.now c.in-Turn.is refl) c.turn.ensures.fault

pub returns-in-Restart-clause-done : goal.returns-in-Restart-clause-done
returns-in-Restart-clause-done g c =
    on_ok_weaker c.restart.result
    (applies_with _ _ c.args.self.now c.self.inside.parts c.restart.new.self c.self.view_is (event.Restart c.in-Restart.host) c.args.event.now
    c.args.bytes.now c.in-Restart.is refl) c.restart.ensures.done

pub returns-in-Restart-clause-fault : goal.returns-in-Restart-clause-fault
returns-in-Restart-clause-fault g c =
    if_err_weaker _ _ c.restart.result
    (refuses_with (λ _. 0) (λ seat count number q r hold. Unit {0}) c.args.self.now c.self.inside.parts c.self.inside.parts c.self.view_is
    (event.Restart c.in-Restart.host) c.args.event.now c.args.bytes.now c.in-Restart.is refl) c.restart.ensures.fault

pub returns-in-Shift-clause-done : goal.returns-in-Shift-clause-done
returns-in-Shift-clause-done g c =
    on_ok_weaker c.shift.result
    (applies_with _ _ c.args.self.now c.self.inside.parts c.shift.new.self c.self.view_is (event.Shift c.in-Shift.host c.in-Shift.n) c.args.event.now
    c.args.bytes.now c.in-Shift.is refl) c.shift.ensures.done

pub returns-in-Shift-clause-fault : goal.returns-in-Shift-clause-fault
returns-in-Shift-clause-fault g c =
    if_err_weaker _ _ c.shift.result
    (refuses_with (λ _. 0) (λ seat count number q r hold. Unit {0}) c.args.self.now c.self.inside.parts c.self.inside.parts c.self.view_is
    (event.Shift c.in-Shift.host c.in-Shift.n) c.args.event.now c.args.bytes.now c.in-Shift.is refl) c.shift.ensures.fault
