use Rattle.std.proofs.Common.{◌∙◌, ◌+◌, ◌-◌, ap, sym, arith, Ok}
use Rattle.homa_plain.specs.Replay.{ticks}
use Rattle.homa_replay.proofs.Ticks.{next_tick, around_tick}
use Rattle.homa_replay.proofs.Turns.{is_none, then_played, then_cut}
use Rattle.homa_replay.proofs.Playing.{not_all, plays_cut, plays_on}
use Rattle.homa_replay.proofs.lines.play_ticks.Goals as goal

pub returns-in_err-answer-clause-plays : goal.returns-in_err-answer-clause-plays
returns-in_err-answer-clause-plays g c =
    let l = c.loop-tick in
    plays_cut _ _ c.from_residual.ensures.1
    (λ w h. then_cut _ _ _ _ _ _ _ _ _ _ _ l.invariant.settings (l.invariant.played w h) (ticks c.args.hosts (c.args.n - (l.tick + 1)))
    (ticks c.args.hosts c.args.n) _ (around_tick c.args.hosts l.tick c.args.n c.loop-tick-test.true) c.in_err-answer.ensures.plays.cut)

pub returns-then-is_some-clause-plays : goal.returns-then-is_some-clause-plays
returns-then-is_some-clause-plays g c =
    let l = c.loop-tick in
    plays_on _ _ (ticks c.args.hosts l.tick) _ (ticks c.args.hosts (c.args.n - (l.tick + 1))) (ticks c.args.hosts c.args.n) l.invariant.settings
    l.invariant.played
    (around_tick c.args.hosts l.tick c.args.n c.loop-tick-test.true) _ c.in_ok-answer.ensures.plays
    (λ k. absurd (not_all c.in_ok-answer.answer (sym c.is_some.ensures ∙ c.if-is_some.true) k))

pub loop-tick-preserved : goal.loop-tick-preserved
loop-tick-preserved g c =
    let l = c.loop-tick in
    let e = c.in_ok-answer.ensures in
    record {
      played = λ w h. then_played _ _ _ _ _ _ _ _ _ _ _ l.invariant.settings (l.invariant.played w h) _ _ (ticks c.args.hosts (l.tick + 1))
          (next_tick c.args.hosts l.tick) (e.plays.played (ap Ok (is_none c.in_ok-answer.answer (sym c.is_some.ensures ∙ c.if-is_some.false))));
      settings = e.settings ∙ l.invariant.settings;
      counted = omega (arith, e.counted, l.invariant.counted);
      quiet = e.sink.quiet ∙ l.invariant.quiet;
      same = g.met.K.Sink.same_on _ _ _ l.invariant.same e.sink.same;
    }
