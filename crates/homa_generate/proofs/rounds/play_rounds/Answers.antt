-- One round after the other.
use Rattle.std.proofs.Common.{◌*◌, ◌≡◌, ◌∙◌, ◌+◌, ◌-◌, suc, refl, sym, arith}
use Rattle.std.proofs.lemmas.Result.{MatchResult-from_err}
use Rattle.generated_runs.specs.Rounds.{next_round, is_over}
use Rattle.generated_runs.specs.Generated.{most_rounds}
use Rattle.generated_runs.proofs.Going.{by_end}
use Rattle.homa_generate.proofs.Goings.{gone_none, then_gone, then_stopped}
use Rattle.homa_generate.proofs.Steadiness.{steady_none, steady_on}
use Rattle.homa_generate.proofs.Extending.{end_extends, round_extends, rounds_extend}
use Rattle.homa_generate.proofs.MoreRounds.{next_rounds, run_over, run_on, rounds_spent}
use Rattle.homa_generate.proofs.rounds.play_rounds.Goals as goal

pub loop-init : goal.loop-init
loop-init g c = record {
  gone = λ r at. gone_none _ r _ _ _ at;
  steady = steady_none _ _ _ _;
  quiet = refl;
  same = g.met.K.Sink.same_self _;
}

pub returns-in_err-round-clause-stopped : goal.returns-in_err-round-clause-stopped
returns-in_err-round-clause-stopped g c =
    let s = g.P.ReplayWorld.settings c.args.world.now in
    let l = c.loop in
    let k = most_rounds - (l.counter + 1) in
    let one : most_rounds - l.counter ≡ suc k = omega (arith, c.loop-test.true) in
    MatchResult-from_err _ _ _ c.from_residual.ensures.0
    (λ _ r at.
    then_stopped s _ _ (λ x. by_end k s x (is_over x)) next_round r _ _ _ _ _ _ l.invariant.steady.settings
    (λ x. end_extends k s x (is_over x) (rounds_extend k s)) (round_extends s)
    (next_rounds s _ r _ _ _ _ _ (most_rounds - l.counter) k one (l.invariant.gone r at)) c.in_err-round.ensures.stopped)

pub returns-then-is_over-clause-gone : goal.returns-then-is_over-clause-gone
returns-then-is_over-clause-gone g c = λ r at.
    let s = g.P.ReplayWorld.settings c.args.world.now in
    let l = c.loop in
    let k = most_rounds - (l.counter + 1) in
    let one : most_rounds - l.counter ≡ suc k = omega (arith, c.loop-test.true) in
    let done = then_gone s _ _ (λ x. by_end k s x (is_over x)) next_round r _ _ _ _ _ _ _ _ l.invariant.steady.settings
    (next_rounds s _ r _ _ _ _ _ (most_rounds - l.counter) k one (l.invariant.gone r at)) c.in_ok-round.ensures.gone in
    run_over s _ r _ _ _ _ _ k done (sym (c.is_over.ensures done.next done.stood.world done.stood.left) ∙ c.if-is_over.true)

pub loop-preserved : goal.loop-preserved
loop-preserved g c =
    let s = g.P.ReplayWorld.settings c.args.world.now in
    let l = c.loop in
    let e = c.in_ok-round.ensures in
    let k = most_rounds - (l.counter + 1) in
    let one : most_rounds - l.counter ≡ suc k = omega (arith, c.loop-test.true) in
    record {
      gone = λ r at.
          let done = then_gone s _ _ (λ x. by_end k s x (is_over x)) next_round r _ _ _ _ _ _ _ _ l.invariant.steady.settings
          (next_rounds s _ r _ _ _ _ _ (most_rounds - l.counter) k one (l.invariant.gone r at)) e.gone in
          run_on s _ r _ _ _ _ _ k done (sym (c.is_over.ensures done.next done.stood.world done.stood.left) ∙ c.if-is_over.false);
      steady = steady_on _ _ _ _ _ _ _ _ _ (40000000 * l.counter) 40000000 _ l.invariant.steady e.steady (omega arith);
      quiet = e.faulted.quiet ∙ l.invariant.quiet;
      same = g.met.K.Sink.same_on _ _ _ l.invariant.same e.same;
    }

pub returns-clause-gone : goal.returns-clause-gone
returns-clause-gone g c = λ r at.
    let none : most_rounds - c.loop.counter ≡ 0 = omega (arith, c.loop-test.false) in
    rounds_spent _ _ r _ _ _ _ _ (most_rounds - c.loop.counter) none (c.loop.invariant.gone r at)
