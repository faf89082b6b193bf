-- A step without an event, a call that isn't made, or an event.
use Rattle.std.proofs.Common.{◌≡◌, ◌≤◌, ◌<◌, ℕ, ap, refl, arith}
use Rattle.std.proofs.lemmas.Result.{MatchResult-from_err}
use Rattle.homa_plain.specs.declared.settings.Settings.{Settings}
use Rattle.homa_plain.specs.declared.event.Event.TheVariants as event
use Rattle.homa_plain.specs.World.{host_at}
use Rattle.generated_runs.specs.Rounds.{live_at}
use Rattle.simulated_network.specs.declared.step.RunStep.TheVariants as step
use Rattle.simulation.specs.Turns.{beside}
use Rattle.simulation.proofs.RunLaws.{gave_as, waited, left_out, one_event, stopped_here, stopped_at}
use Rattle.simulation.proofs.running.turn.Goals as goal

pub returns-in_err-next-clause-stopped : goal.returns-in_err-next-clause-stopped
returns-in_err-next-clause-stopped g c =
    MatchResult-from_err _ _ _ c.from_residual.ensures.0
    (λ _ w h. stopped_here _ _ _ _ _ _ w _ _ (g.met.P.ReplayWorld.allows_none c.args.world.now))

pub returns-in-Over-clause-ran : goal.returns-in-Over-clause-ran
returns-in-Over-clause-ran g c = λ w h.
    waited _ _ _ _ _ _ w _ _ step.Over _ _ tt
    (gave_as g.N.HostNetwork.gives _ _ _ _ _ _ (c.clock.ensures w h) c.in-Over.is c.in_ok-next.ensures) h

pub returns-in_err-happen-in-Event-clause-stopped : goal.returns-in_err-happen-in-Event-clause-stopped
returns-in_err-happen-in-Event-clause-stopped g c =
    MatchResult-from_err _ _ _ c.from_residual-in_err-happen-in-Event.ensures.0
    (λ _ w h. stopped_at _ _ _ _ _ _ w _ _ _ (beside c.in-Event.event c.in-Event.bytes) (g.met.P.ReplayWorld.allows_none c.args.world.now)
    c.in_err-happen-in-Event.ensures.part)

pub returns-then-setup-live-clause-ran : goal.returns-then-setup-live-clause-ran
returns-then-setup-live-clause-ran g c = λ w h.
    let p = g.P.ReplayWorld in
    let full : (p.settings c.args.world.now).calls ≤ live_at (host_at w c.in-Call.client) =
    omega (arith, c.if-setup-live.true, c.live.ensures w h, ap (λ (s : Settings). s.calls) c.requires.settings) in
    left_out _ _ _ _ _ _ w _ _ _ c.in-Call.client c.in-Call.server c.in-Call.bytes _ _ full
    (gave_as g.N.HostNetwork.gives _ _ _ _ _ _ (c.clock.ensures w h) c.in-Call.is c.in_ok-next.ensures) c.leave_out.ensures h

pub returns-in_err-happen-in-Call-clause-stopped : goal.returns-in_err-happen-in-Call-clause-stopped
returns-in_err-happen-in-Call-clause-stopped g c =
    MatchResult-from_err _ _ _ c.from_residual-in_err-happen-in-Call.ensures.0
    (λ _ w h. stopped_at _ _ _ _ _ _ w _ _ _ (beside (event.Call c.in-Call.client c.in-Call.server c.args.setup.now.service) c.in-Call.bytes)
    (g.met.P.ReplayWorld.allows_none c.args.world.now) c.in_err-happen-in-Call.ensures.part)

pub returns-in-Inside-clause-ran : goal.returns-in-Inside-clause-ran
returns-in-Inside-clause-ran g c = λ w h.
    waited _ _ _ _ _ _ w _ _ step.Inside _ _ tt
    (gave_as g.N.HostNetwork.gives _ _ _ _ _ _ (c.clock.ensures w h) c.in-Inside.is c.in_ok-next.ensures) h

pub returns-in_ok-happen-in-Event-clause-ran : goal.returns-in_ok-happen-in-Event-clause-ran
returns-in_ok-happen-in-Event-clause-ran g c = λ w h.
    let e = c.in_ok-happen-in-Event.ensures in
    one_event _ _ _ _ _ _ w _ _ c.next.new.self (step.Event c.in-Event.event c.in-Event.bytes) (beside c.in-Event.event c.in-Event.bytes) _ _ _
    (gave_as g.N.HostNetwork.gives _ _ _ _ _ _ (c.clock.ensures w h) c.in-Event.is c.in_ok-next.ensures) refl tt (e.happened w h) e.counted e.printed

pub returns-in_ok-happen-in-Call-clause-ran : goal.returns-in_ok-happen-in-Call-clause-ran
returns-in_ok-happen-in-Call-clause-ran g c = λ w h.
    let p = g.P.ReplayWorld in
    let e = c.in_ok-happen-in-Call.ensures in
    let room : live_at (host_at w c.in-Call.client) < (p.settings c.args.world.now).calls =
    omega (arith, c.if-setup-live.false, c.live.ensures w h, ap (λ (s : Settings). s.calls) c.requires.settings) in
    one_event _ _ _ _ _ _ w _ _ c.next.new.self (step.Call c.in-Call.client c.in-Call.server c.in-Call.bytes)
    (beside (event.Call c.in-Call.client c.in-Call.server c.args.setup.now.service) c.in-Call.bytes) _ _ _
    (gave_as g.N.HostNetwork.gives _ _ _ _ _ _ (c.clock.ensures w h) c.in-Call.is c.in_ok-next.ensures) refl room (e.happened w h) e.counted e.printed
