-- One packet after the other.
use Rattle.std.proofs.Common.{◌*◌, ◌≡◌, ◌∙◌, ◌+◌, ◌-◌, suc, refl, sym, arith}
use Rattle.std.proofs.lemmas.Result.{MatchResult-from_err}
use Rattle.generated_runs.specs.Rounds.{host_round, most_handed}
use Rattle.homa_generate.proofs.Goings.{gone_none, then_gone, then_stopped}
use Rattle.homa_generate.proofs.Steadiness.{steady_none, steady_on}
use Rattle.homa_generate.proofs.Extending.{line_extends, host_extends}
use Rattle.homa_generate.proofs.HostRounds.{deliver, round_ended, packet_handed, round_spent}
use Rattle.homa_generate.proofs.rounds.host_round.Goals as goal

pub loop-init : goal.loop-init
loop-init g c = record {
  gone = λ r at. gone_none _ r _ _ _ at;
  steady = steady_none _ _ _ _;
  quiet = refl;
  same = g.met.K.Sink.same_self _;
}

pub returns-in_default-clause-gone : goal.returns-in_default-clause-gone
returns-in_default-clause-gone g c = λ r at.
    let s = g.P.ReplayWorld.settings c.args.world.now in
    let l = c.loop in
    let one : most_handed - l.counter ≡ suc (most_handed - (l.counter + 1)) = omega (arith, c.loop-test.true) in
    let first = l.invariant.gone r at in
    round_ended s c.args.to.0 (most_handed - l.counter) (most_handed - (l.counter + 1)) _ r _ _ _ _ _ _ first l.progress.fabric.life c.clock.result
    one (l.invariant.steady.life ∙ c.requires.ready.life) (c.clock.ensures first.next.world first.stood.world) c.next.ensures.fabric refl refl refl
    (sym c.next.ensures.number ∙ c.in_default.is)

pub returns-in_err-play-clause-stopped : goal.returns-in_err-play-clause-stopped
returns-in_err-play-clause-stopped g c =
    let s = g.P.ReplayWorld.settings c.args.world.now in
    let l = c.loop in
    let one : most_handed - l.counter ≡ suc (most_handed - (l.counter + 1)) = omega (arith, c.loop-test.true) in
    MatchResult-from_err _ _ _ c.from_residual.ensures.0
    (λ _ r at.
    let first = l.invariant.gone r at in
    then_stopped s _ _ (host_round (most_handed - (l.counter + 1)) s c.args.to.0) (deliver c.in-Some.number) r _ _ _ _ _ _ l.invariant.steady.settings
    (host_extends (most_handed - (l.counter + 1)) s c.args.to.0) (λ x. line_extends s _ x)
    (packet_handed s c.args.to.0 (most_handed - l.counter) (most_handed - (l.counter + 1)) _ r _ _ _ _ _ _ first l.progress.fabric.life c.clock.result
    one (l.invariant.steady.life ∙ c.requires.ready.life) (c.clock.ensures first.next.world first.stood.world) c.next.ensures.fabric refl refl refl
    c.in-Some.number (sym c.next.ensures.number ∙ c.in-Some.is))
    c.in_err-play.ensures.stopped)

pub loop-preserved : goal.loop-preserved
loop-preserved g c =
    let s = g.P.ReplayWorld.settings c.args.world.now in
    let l = c.loop in
    let e = c.in_ok-play.ensures in
    let one : most_handed - l.counter ≡ suc (most_handed - (l.counter + 1)) = omega (arith, c.loop-test.true) in
    record {
      gone = λ r at.
          let first = l.invariant.gone r at in
          then_gone s _ _ (host_round (most_handed - (l.counter + 1)) s c.args.to.0) (deliver c.in-Some.number) r _ _ _ _ _ _ _ _ l.invariant.steady.settings
          (packet_handed s c.args.to.0 (most_handed - l.counter) (most_handed - (l.counter + 1)) _ r _ _ _ _ _ _ first l.progress.fabric.life
          c.clock.result one (l.invariant.steady.life ∙ c.requires.ready.life) (c.clock.ensures first.next.world first.stood.world)
          c.next.ensures.fabric refl refl refl c.in-Some.number (sym c.next.ensures.number ∙ c.in-Some.is))
          e.gone;
      steady = steady_on _ _ _ _ _ _ _ _ _ (33 * l.counter) 33 _
          (steady_on _ _ _ _ _ _ _ _ _ _ 0 _ l.invariant.steady
          (record { settings = refl; life = c.next.ensures.life; hosts = c.next.ensures.hosts; counted = omega arith }) (omega arith)) e.steady (omega arith);
      quiet = e.faulted.quiet ∙ l.invariant.quiet;
      same = g.met.K.Sink.same_on _ _ _ l.invariant.same e.same;
    }

pub returns-clause-gone : goal.returns-clause-gone
returns-clause-gone g c = λ r at.
    let none : most_handed - c.loop.counter ≡ 0 = omega (arith, c.loop-test.false) in
    round_spent _ c.args.to.0 (most_handed - c.loop.counter) _ r _ _ _ _ _ none (c.loop.invariant.gone r at)
