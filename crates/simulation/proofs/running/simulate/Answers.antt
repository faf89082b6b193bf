-- Opened, begun, and played to its end.
use Rattle.std.proofs.Common.{ℕ, refl, sym, subst}
use Rattle.std.proofs.lemmas.Result.{MatchResult-from_err}
use Rattle.simulation.specs.Runs.{IsRun}
use Rattle.simulation.proofs.RunLaws.{part_none, part_begun, whole_here, part_here}
use Rattle.simulation.proofs.running.simulate.Goals as goal

pub returns-in_err-setup-clause-stopped : goal.returns-in_err-setup-clause-stopped
returns-in_err-setup-clause-stopped g c =
    MatchResult-from_err _ _ _ c.from_residual.ensures.0 (λ _. part_none _ _ _ _ _ (g.met.P.OpenWorld.unasked c.args.boxes _ refl))

pub returns-in_err-world-clause-stopped : goal.returns-in_err-world-clause-stopped
returns-in_err-world-clause-stopped g c =
    MatchResult-from_err _ _ _ c.from_residual-in_err-world.ensures.0 (λ _. part_none _ _ _ _ _ (g.met.P.OpenWorld.unasked c.args.boxes _ refl))

pub returns-in_err-network-clause-stopped : goal.returns-in_err-network-clause-stopped
returns-in_err-network-clause-stopped g c =
    MatchResult-from_err _ _ _ c.from_residual-in_err-network.ensures.0 (λ _. part_none _ _ _ _ _ (g.met.P.OpenWorld.unasked c.args.boxes _ refl))

pub returns-in_err-begin-clause-stopped : goal.returns-in_err-begin-clause-stopped
returns-in_err-begin-clause-stopped g c =
    let setup = c.in_ok-setup.ensures in
    MatchResult-from_err _ _ _ c.from_residual-in_err-begin.ensures.0
    (λ _. part_begun _ _ _ _ _ _ _ _ setup.settings setup.prints (g.met.P.OpenWorld.unasked c.args.boxes _ refl) c.in_err-begin.ensures.err)

pub returns-in_err-events-clause-stopped : goal.returns-in_err-events-clause-stopped
returns-in_err-events-clause-stopped g c =
    let setup = c.in_ok-setup.ensures in
    let w = c.in_ok-world.ensures in
    MatchResult-from_err _ _ _ c.from_residual-in_err-events.ensures.0
    (λ _. part_here _ _ _ _ _ _ _ _ _ _ _ _ _ _ _ setup.settings w.settings setup.prints w.opened c.in_ok-begin.ensures.ok w.allows _
    c.in_err-events.ensures.stopped)

pub returns-clause-ran : goal.returns-clause-ran
returns-clause-ran g c =
    let setup = c.in_ok-setup.ensures in
    let w = c.in_ok-world.ensures in
    let k = g.K.Sink in
    subst
    (λ (n : ℕ). IsRun c.args.experiment.now.settings (g.P.OpenWorld.many c.args.boxes) c.args.prints (g.P.OpenWorld.are_allowed c.args.boxes)
    (k.taken c.args.sink.now) (k.taken c.play.new.sink) n)
    (sym c.finish.ensures.events)
    (whole_here _ _ _ _ _ _ _ _ _ _ _ _ _ _ _ setup.settings w.settings setup.prints w.opened c.in_ok-begin.ensures.ok w.allows _ _ _ refl
    (g.met.P.ReplayWorld.allows_none c.play.new.world) c.in_ok-events.ensures.ran)
