use Rattle.std.proofs.Common.{◌∙◌}
use Rattle.homa_replay.specs.declared.stop.Stop.TheVariants.{Write}
use Rattle.homa_replay.specs.Progress.{replay_of}
use Rattle.homa_replay.proofs.Behinds.{up_to_below}
use Rattle.homa_replay.proofs.Exits.{stop_of, not_written, answered}
use Rattle.homa_replay.proofs.Composed.{all_out, parts_any, parts_at, parts_written, printed_below, replayed_part}
use Rattle.homa_replay.proofs.replays.replay_through.Goals as goal

pub returns-in_err-finish-clause-replayed : goal.returns-in_err-finish-clause-replayed
returns-in_err-finish-clause-replayed g c =
    let o = g.P.OpenWorld in
    let e = c.replay_held-answer.ensures in
    replayed_part _ Write (stop_of _ _ _ c.from_residual.ensures.1 c.in_err-finish.ensures.stop)
    (parts_written (replay_of (o.many c.args.boxes)) _ _ _ _ _ _ _ _
    (o.are_allowed c.args.boxes) _ _ c.requires.none e.left.same_sink.1 c.finish.ensures.grows c.finish.ensures.whole (λ k. absurd cc)
    (parts_any _ (replay_of (o.many c.args.boxes)) _ _ _ _ (o.are_allowed c.args.boxes) e.front e.replayed.part))

pub returns-in_err-accepted-clause-replayed : goal.returns-in_err-accepted-clause-replayed
returns-in_err-accepted-clause-replayed g c =
    let o = g.P.OpenWorld in
    let e = c.replay_held-answer.ensures in
    replayed_part _ _ c.from_residual-in_err-accepted.ensures.1
    (parts_written (replay_of (o.many c.args.boxes)) _ _ _ _ _ _ _ _
    (o.are_allowed c.args.boxes) _ _ c.requires.none e.left.same_sink.1 c.finish.ensures.grows c.finish.ensures.whole
    (λ k. (k, c.in_ok-finish.ensures.none (not_written _ _ c.in_err-accepted.was k)))
    (parts_at _ _ (replay_of (o.many c.args.boxes)) _ _ _ _ (o.are_allowed c.args.boxes) c.in_err-accepted.was e.replayed.part))

pub returns-clause-same : goal.returns-clause-same
returns-clause-same g c = g.met.K.Sink.same_on _ _ _ c.replay_held-answer.ensures.left.same_sink.0 c.finish.ensures.same

pub returns-clause-replayed : goal.returns-clause-replayed
returns-clause-replayed g c =
    let o = g.P.OpenWorld in
    let e = c.replay_held-answer.ensures.replayed in
    let was = c.in_ok-accepted.was in
    let none = c.in_ok-finish.ensures.none (answered _ _ was) in
    let whole = c.finish.ensures.whole in
    record {
      printed = printed_below (replay_of (o.many c.args.boxes)) _ _ _ _ _ _ (o.are_allowed c.args.boxes) c.in_ok-accepted.accepted c.requires.none
          (all_out _ _ _ _ none whole) (rw was at e.printed);
      to_end = λ k. e.to_end (was ∙ k);
      behind = λ k bytes h. up_to_below bytes _ _ _ _ _ _ _ c.requires.none none whole (e.behind (was ∙ k) bytes h);
      part = tt;
    }
