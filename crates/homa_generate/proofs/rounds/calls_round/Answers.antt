-- One call after the other.
use Rattle.std.proofs.Common.{◌*◌, ◌≡◌, ◌∙◌, ◌+◌, ◌-◌, suc, refl, arith}
use Rattle.std.proofs.lemmas.Bool.{eq-eqb, ne_eqb}
use Rattle.std.proofs.lemmas.Result.{MatchResult-from_err}
use Rattle.generated_runs.specs.Rounds.{calls_round, calls_a_round}
use Rattle.homa_generate.specs.Steps.{one_call}
use Rattle.homa_generate.proofs.Goings.{gone_none, then_gone, then_stopped}
use Rattle.homa_generate.proofs.Steadiness.{steady_none, steady_on}
use Rattle.homa_generate.proofs.Extending.{call_extends, calls_extend}
use Rattle.homa_generate.proofs.MoreRounds.{next_call, no_call, calls_spent}
use Rattle.homa_generate.proofs.rounds.calls_round.Goals as goal

pub loop-init : goal.loop-init
loop-init g c = record {
  gone = λ r at. gone_none _ r _ _ _ at;
  steady = steady_none _ _ _ _;
  quiet = refl;
  same = g.met.K.Sink.same_self _;
}

pub returns-then-progress-eq0-clause-gone : goal.returns-then-progress-eq0-clause-gone
returns-then-progress-eq0-clause-gone g c = λ r at.
    let l = c.loop in
    let one : calls_a_round - l.counter ≡ suc (calls_a_round - (l.counter + 1)) = omega (arith, c.loop-test.true) in
    no_call _ _ r _ _ _ _ _ (calls_a_round - l.counter) (calls_a_round - (l.counter + 1)) one (eq-eqb _ _ c.if-progress-eq0.true) (l.invariant.gone r at)

pub returns-in_err-call-clause-stopped : goal.returns-in_err-call-clause-stopped
returns-in_err-call-clause-stopped g c =
    let s = g.P.ReplayWorld.settings c.args.world.now in
    let l = c.loop in
    let one : calls_a_round - l.counter ≡ suc (calls_a_round - (l.counter + 1)) = omega (arith, c.loop-test.true) in
    MatchResult-from_err _ _ _ c.from_residual.ensures.0
    (λ _ r at.
    then_stopped s _ _ (calls_round (calls_a_round - (l.counter + 1)) s) one_call r _ _ _ _ _ _ l.invariant.steady.settings
    (calls_extend (calls_a_round - (l.counter + 1)) s) (call_extends s)
    (next_call s _ r _ _ _ _ _ (calls_a_round - l.counter) (calls_a_round - (l.counter + 1)) one (ne_eqb _ _ c.if-progress-eq0.false)
    (l.invariant.gone r at)) c.in_err-call.ensures.stopped)

pub loop-preserved : goal.loop-preserved
loop-preserved g c =
    let s = g.P.ReplayWorld.settings c.args.world.now in
    let l = c.loop in
    let e = c.in_ok-call.ensures in
    let one : calls_a_round - l.counter ≡ suc (calls_a_round - (l.counter + 1)) = omega (arith, c.loop-test.true) in
    record {
      gone = λ r at.
          then_gone s _ _ (calls_round (calls_a_round - (l.counter + 1)) s) one_call r _ _ _ _ _ _ _ _ l.invariant.steady.settings
          (next_call s _ r _ _ _ _ _ (calls_a_round - l.counter) (calls_a_round - (l.counter + 1)) one (ne_eqb _ _ c.if-progress-eq0.false)
          (l.invariant.gone r at)) e.gone;
      steady = steady_on _ _ _ _ _ _ _ _ _ (33 * l.counter) 33 _ l.invariant.steady e.steady (omega arith);
      quiet = e.faulted.quiet ∙ l.invariant.quiet;
      same = g.met.K.Sink.same_on _ _ _ l.invariant.same e.same;
    }

pub returns-clause-gone : goal.returns-clause-gone
returns-clause-gone g c = λ r at.
    let none : calls_a_round - c.loop.counter ≡ 0 = omega (arith, c.loop-test.false) in
    calls_spent _ _ r _ _ _ _ _ (calls_a_round - c.loop.counter) none (c.loop.invariant.gone r at)
