-- A turn more, up to the last.
use Rattle.std.proofs.Common.{◌∙◌, arith}
use Rattle.std.proofs.lemmas.Result.{MatchResult-from_err}
use Rattle.simulation.proofs.RunLaws.{then_run, then_stopped, stopped_here}
use Rattle.simulation.proofs.running.play.Goals as goal

pub returns-in_err-turn-clause-stopped : goal.returns-in_err-turn-clause-stopped
returns-in_err-turn-clause-stopped g c =
    let l = c.loop-turns in
    MatchResult-from_err _ _ _ c.from_residual.ensures.0
    (λ _ w h. then_stopped _ _ _ _ _ _ _ w _ _ _ _ _ _ l.invariant.settings (l.invariant.ran w h) c.in_err-turn.ensures.stopped)

pub returns-then-not-branch-clause-ran : goal.returns-then-not-branch-clause-ran
returns-then-not-branch-clause-ran g c = λ w h.
    let l = c.loop-turns in
    then_run _ _ _ _ _ _ _ w _ _ _ _ _ _ _ _ l.invariant.settings (l.invariant.ran w h) c.in_ok-turn.ensures.ran

pub loop-turns-preserved : goal.loop-turns-preserved
loop-turns-preserved g c =
    let l = c.loop-turns in
    let e = c.in_ok-turn.ensures in
    record {
      ran = λ w h. then_run _ _ _ _ _ _ _ w _ _ _ _ _ _ _ _ l.invariant.settings (l.invariant.ran w h) e.ran;
      settings = e.settings ∙ l.invariant.settings;
      applied = omega (arith, e.applied, l.invariant.applied);
      few = omega (arith, e.rises, l.invariant.few);
      same = g.met.K.Sink.same_on _ _ _ l.invariant.same e.same;
    }

pub returns-clause-stopped : goal.returns-clause-stopped
returns-clause-stopped g c = λ w h.
    let l = c.loop-turns in
    then_stopped _ _ _ _ _ _ _ w _ _ _ _ _ _ l.invariant.settings (l.invariant.ran w h)
    (λ v x. stopped_here _ _ _ _ _ _ v _ _ (g.met.P.ReplayWorld.allows_none l.world))
