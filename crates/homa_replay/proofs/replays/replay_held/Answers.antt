use Rattle.std.proofs.Common.{ap, refl, Ok, [], false}
use Rattle.std.proofs.lemmas.Result.{err_from_is_err_and}
use Rattle.homa_replay.specs.Progress.{replay_of, is_unasked}
use Rattle.homa_script.specs.Script.{Script}
use Rattle.homa_replay.proofs.Behinds.{refuses_behind, read_up_to}
use Rattle.homa_replay.proofs.Fronts.{front_whole}
use Rattle.homa_replay.proofs.Leaving.{leaves_on}
use Rattle.homa_replay.proofs.Begins.{settings_cut}
use Rattle.homa_replay.proofs.Composed.{composed_printed, composed_parts, printed_allowed, parts_allowed, parts_none, parts_settings}
use Rattle.homa_replay.proofs.Composed.{printed_settings, replayed_part}
use Rattle.homa_replay.proofs.replays.replay_held.Goals as goal

pub returns-in_err-reader-clause-replayed : goal.returns-in_err-reader-clause-replayed
returns-in_err-reader-clause-replayed g c =
    let o = g.P.OpenWorld in
    replayed_part _ _ c.from_residual.ensures.1
    (parts_none (replay_of (o.many c.args.boxes)) _ _ (o.are_allowed c.args.boxes) _ (g.met.P.OpenWorld.unasked c.args.boxes [] refl))

pub returns-in_err-settings-clause-replayed : goal.returns-in_err-settings-clause-replayed
returns-in_err-settings-clause-replayed g c =
    let o = g.P.OpenWorld in
    replayed_part _ _ c.from_residual-in_err-settings.ensures.1
    (parts_allowed (replay_of (o.many c.args.boxes)) _ _ _ _ is_unasked (o.are_allowed c.args.boxes) _ (λ told h. g.met.P.OpenWorld.unasked c.args.boxes told h)
    (c.in_err-settings.ensures.part (o.many c.args.boxes)))

pub returns-in_default-clause-replayed : goal.returns-in_default-clause-replayed
returns-in_default-clause-replayed g c =
    let o = g.P.OpenWorld in
    let e = c.in_ok-settings.ensures in
    let none = ap Ok c.in_default.is in
    record {
      printed = printed_allowed (replay_of (o.many c.args.boxes)) _ _ _ is_unasked (o.are_allowed c.args.boxes) _
          (λ told h. g.met.P.OpenWorld.unasked c.args.boxes told h) (e.refused none (o.many c.args.boxes));
      to_end = λ k. absurd cc;
      behind = λ _. read_up_to _ _ _ _ _ _ _ (ap (λ (r : Script). r.place) c.in_ok-reader.ensures) (e.behind none);
      part = tt;
    }

pub returns-in_default-clause-front : goal.returns-in_default-clause-front
returns-in_default-clause-front g c =
    let o = g.P.OpenWorld in
    parts_allowed (replay_of (o.many c.args.boxes)) _ _ _ _ is_unasked (o.are_allowed c.args.boxes) false
    (λ told h. g.met.P.OpenWorld.unasked c.args.boxes told h) (c.in_ok-settings.ensures.front (ap Ok c.in_default.is) (o.many c.args.boxes))

pub returns-in_err-world-clause-replayed : goal.returns-in_err-world-clause-replayed
returns-in_err-world-clause-replayed g c =
    let o = g.P.OpenWorld in
    let read = rw c.in-Some.is at c.in_ok-settings.ensures.opened in
    let line = rw c.in-Some.is at c.in_ok-settings.ensures.line in
    replayed_part _ _ c.from_residual-in_err-world.ensures.1
    (parts_allowed (replay_of (o.many c.args.boxes)) _ _ _ _ is_unasked (o.are_allowed c.args.boxes) _ (λ told h. g.met.P.OpenWorld.unasked c.args.boxes told h)
    (settings_cut (o.many c.args.boxes) _ _ _ _ refl _ c.in-Some.settings c.begin.new.reader.place _ read (λ _. line) (front_whole _ _ _ line)))

pub returns-in_err-accepted-clause-replayed : goal.returns-in_err-accepted-clause-replayed
returns-in_err-accepted-clause-replayed g c =
    let o = g.P.OpenWorld in
    let read = rw c.in-Some.is at c.in_ok-settings.ensures.opened in
    let line = rw c.in-Some.is at c.in_ok-settings.ensures.line in
    let w = c.in_ok-world.ensures.opened in
    replayed_part _ _ c.from_residual-in_err-accepted.ensures.1
    (composed_parts (o.many c.args.boxes) _ _ _ _ _ c.in-Some.settings w.first c.begin.new.reader.place (o.are_allowed c.args.boxes)
    (g.P.ReplayWorld.allows c.in_ok-world.world) read line w.is_first c.in_ok-world.ensures.allows _ _
    (parts_settings _ c.in-Some.settings w.first c.begin.new.reader.place _ _ _ _ (g.P.ReplayWorld.allows c.in_ok-world.world) _ c.in_ok-world.ensures.settings
    (c.in_err-accepted.ensures.part w.first w.stood)))

pub returns-clause-replayed : goal.returns-clause-replayed
returns-clause-replayed g c =
    let o = g.P.OpenWorld in
    let e = c.in_ok-settings.ensures in
    let a = c.in_ok-accepted.ensures in
    let read = rw c.in-Some.is at e.opened in
    let line = rw c.in-Some.is at e.line in
    let w = c.in_ok-world.ensures.opened in
    record {
      printed = composed_printed (o.many c.args.boxes) _ _ _ _ _ c.in-Some.settings w.first c.begin.new.reader.place (o.are_allowed c.args.boxes)
          (g.P.ReplayWorld.allows c.in_ok-world.world) read line w.is_first c.in_ok-world.ensures.allows c.in_ok-accepted.accepted
          (printed_settings _ c.in-Some.settings w.first c.begin.new.reader.place _ _ _ (g.P.ReplayWorld.allows c.in_ok-world.world) c.in_ok-accepted.accepted
          c.in_ok-world.ensures.settings (a.printed w.first w.stood));
      to_end = λ k bytes h. let r = read bytes h in a.to_end k w.first w.stood r.rest r.has_left;
      behind = λ k bytes h.
          let r = read bytes h in
          read_up_to _ _ _ _ _ _ _ (ap (λ (r : Script). r.place) c.in_ok-reader.ensures)
          (refuses_behind _ _ _ _ _ _ _ _ _ c.in-Some.settings e.took line (a.behind k w.first w.stood r.rest r.has_left)) bytes h;
      part = tt;
    }

pub returns-clause-front : goal.returns-clause-front
returns-clause-front g c =
    let o = g.P.OpenWorld in
    let read = rw c.in-Some.is at c.in_ok-settings.ensures.opened in
    let line = rw c.in-Some.is at c.in_ok-settings.ensures.line in
    let w = c.in_ok-world.ensures.opened in
    composed_parts (o.many c.args.boxes) _ _ _ _ _ c.in-Some.settings w.first c.begin.new.reader.place (o.are_allowed c.args.boxes)
    (g.P.ReplayWorld.allows c.in_ok-world.world) read line w.is_first c.in_ok-world.ensures.allows _ false
    (parts_settings _ c.in-Some.settings w.first c.begin.new.reader.place _ _ _ _
    (g.P.ReplayWorld.allows c.in_ok-world.world) false c.in_ok-world.ensures.settings (c.in_ok-accepted.ensures.front w.first w.stood))

pub returns-in_err-accepted-clause-left : goal.returns-in_err-accepted-clause-left
returns-in_err-accepted-clause-left g c =
    let r = c.from_residual-in_err-accepted in
    let p = err_from_is_err_and r.result r.ensures.1 in
    rw (p.1, p.2) (leaves_on g.met.S.Source.same_on g.met.K.Sink.same_on c.in_ok-settings.ensures.left c.in_err-accepted.ensures.left)
