use Rattle.std.proofs.Common.{◌∙◌, ◌+◌, ◌-◌, ap, sym, arith, Ok}
use Rattle.homa_plain.specs.Replay.{turns_of}
use Rattle.homa_replay.proofs.Ticks.{next_turn, around_turn}
use Rattle.homa_replay.proofs.Turns.{is_none, then_played, then_cut}
use Rattle.homa_replay.proofs.Playing.{not_all, plays_cut, plays_on}
use Rattle.homa_replay.proofs.lines.play_turns.Goals as goal

pub returns-in_err-answer-clause-plays : goal.returns-in_err-answer-clause-plays
returns-in_err-answer-clause-plays g c =
    let l = c.loop-host in
    plays_cut _ _ c.from_residual.ensures.1
    (λ w h. then_cut _ _ _ _ _ _ _ _ _ _ _ l.invariant.settings (l.invariant.played w h) (turns_of (l.host + 1) (c.args.hosts - (l.host + 1)))
    (turns_of 0 c.args.hosts) _ (around_turn l.host c.args.hosts c.loop-host-test.true) c.in_err-answer.ensures.plays.cut)

pub returns-then-is_some-clause-plays : goal.returns-then-is_some-clause-plays
returns-then-is_some-clause-plays g c =
    let l = c.loop-host in
    plays_on _ _ (turns_of 0 l.host) _ (turns_of (l.host + 1) (c.args.hosts - (l.host + 1))) (turns_of 0 c.args.hosts) l.invariant.settings l.invariant.played
    (around_turn l.host c.args.hosts c.loop-host-test.true) _ c.in_ok-answer.ensures.plays
    (λ k. absurd (not_all c.in_ok-answer.answer (sym c.is_some.ensures ∙ c.if-is_some.true) k))

pub loop-host-preserved : goal.loop-host-preserved
loop-host-preserved g c =
    let l = c.loop-host in
    let e = c.in_ok-answer.ensures in
    record {
      played = λ w h. then_played _ _ _ _ _ _ _ _ _ _ _ l.invariant.settings (l.invariant.played w h) _ _ (turns_of 0 (l.host + 1)) (next_turn l.host)
          (e.plays.played (ap Ok (is_none c.in_ok-answer.answer (sym c.is_some.ensures ∙ c.if-is_some.false))));
      settings = e.settings ∙ l.invariant.settings;
      counted = omega (arith, e.counted, l.invariant.counted);
      quiet = e.sink.quiet ∙ l.invariant.quiet;
      same = g.met.K.Sink.same_on _ _ _ l.invariant.same e.sink.same;
    }
