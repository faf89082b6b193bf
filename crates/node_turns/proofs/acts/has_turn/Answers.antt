use Rattle.std.proofs.Common.{◌∷◌, [], ◌∙◌, ap}
use Rattle.std.specs.Prelude.{map}
use Rattle.std.proofs.lemmas.List.{length-map}
use Rattle.node_runs.specs.Course.{Tells, Turning}
use Rattle.node_turns.specs.Told.{listed, ListedFront}
use Rattle.node_turns.specs.Acting.{frame_datagram}
use Rattle.node_turns.proofs.Tellings.{told_one, turning_usual, seen_midst}
use Rattle.node_turns.proofs.Acted.{acted_turn}
use Rattle.std.proofs.Common.{refl, subst}
use Rattle.std.proofs.lemmas.Result.{MatchResult-from_err, err_from_is_err_and}
use Rattle.node_turns.proofs.Lists.{whole_listed, front_none}
use Rattle.node_turns.proofs.Frames.{acts_of}
use Rattle.node_turns.proofs.Done.{gone_more, gone_turning, gone_step, broken_more, broken_turning, broken_unsent, broken_untold}
use Rattle.node_turns.proofs.Cuts.{cut_begun, cut_turn}
use Rattle.node_turns.proofs.Same.{stepped_none, outside_went, outside_lost, outside_untold, outside_on}
use Rattle.node_turns.proofs.acts.has_turn.Goals as goal

pub returns-clause-acted : goal.returns-clause-acted
returns-clause-acted g c =
    let o = g.O.Observer in
    let t = c.in_ok-turning.ensures in
    let told = g.H.LoopHosts.told c.turn.new.self in
    let frames = g.H.LoopHosts.frames c.turn.new.self in
    λ w h. acted_turn _ c.args.host w _ told frames _ _ _ _ _ _ _ (c.turn.ensures.done w h)
    (gone_more o.told o.kept o.strange _ (o.taken c.turning.new.self) _ _ (o.notes c.turning.new.self) _ _ (g.N.Net.acts c.args.net.now) _ _ _ _
    (Turning c.args.host ∷ []) (map Tells told)
    (gone_turning o.told o.kept o.strange _ _ _ _ _ c.args.host
    (told_one o.told o.kept o.strange _ _ _ _ (Turning c.args.host) t.told t.kept (turning_usual o.strange g.met.O.Observer.strange_comes _ c.args.host)))
    (gone_step o.told o.kept o.strange _ _ _ _ _ _ 64 told (map frame_datagram frames) c.turn.ensures.own
    (length-map frames frame_datagram ∙ (c.turn.ensures.done w h).numbers)
    (c.in_ok-send_frames.ensures.acts ∙ ap (listed (g.N.Net.acts c.args.net.now)) (acts_of frames)) c.in_ok-tell_entries.ensures.ok))
    c.in_ok-send_frames.ensures.ok c.in_ok-send_frames.ensures.gave

pub returns-in_err-turning-clause-cut : goal.returns-in_err-turning-clause-cut
returns-in_err-turning-clause-cut g c =
    let o = g.O.Observer in
    MatchResult-from_err _ _ _ c.from_residual.ensures.0
    (λ _ w h. cut_begun _ c.args.host w _ _ _ _ _ (g.met.H.LoopHosts.turns c.args.hosts.now w h c.args.host c.requires.host)
    (broken_turning o.told o.kept o.strange _ _ _ _ c.args.host c.in_err-turning.ensures.err) (front_none _ _ refl) refl
    (g.met.H.LoopHosts.allows_none c.args.hosts.now))

pub returns-in_err-send_frames-clause-cut : goal.returns-in_err-send_frames-clause-cut
returns-in_err-send_frames-clause-cut g c =
    let o = g.O.Observer in
    let t = c.in_ok-turning.ensures in
    let told = g.H.LoopHosts.told c.turn.new.self in
    let frames = g.H.LoopHosts.frames c.turn.new.self in
    MatchResult-from_err _ _ _ c.from_residual-in_err-send_frames.ensures.0
    (λ _ w h. cut_turn _ c.args.host w _ told frames _ _ _ _ _ _ (c.turn.ensures.done w h)
    (broken_more o.told o.kept o.strange _ (o.taken c.turning.new.self) _ _ (o.notes c.turning.new.self) _ (g.N.Net.acts c.args.net.now) _ _ _
    (Turning c.args.host ∷ []) (map Tells told)
    (gone_turning o.told o.kept o.strange _ _ _ _ _ c.args.host
    (told_one o.told o.kept o.strange _ _ _ _ (Turning c.args.host) t.told t.kept (turning_usual o.strange g.met.O.Observer.strange_comes _ c.args.host)))
    (broken_unsent o.told o.kept o.strange _ _ _ _ 64 told (map frame_datagram frames) c.turn.ensures.own
    (length-map frames frame_datagram ∙ (c.turn.ensures.done w h).numbers)
    (subst (ListedFront _ _) (acts_of frames) c.in_err-send_frames.ensures.err_acts)))
    c.in_err-send_frames.ensures.err c.in_err-send_frames.ensures.gave
    (g.met.H.LoopHosts.allows_none c.turn.new.self))

pub returns-in_err-tell_entries-clause-cut : goal.returns-in_err-tell_entries-clause-cut
returns-in_err-tell_entries-clause-cut g c =
    let o = g.O.Observer in
    let t = c.in_ok-turning.ensures in
    let told = g.H.LoopHosts.told c.turn.new.self in
    let frames = g.H.LoopHosts.frames c.turn.new.self in
    MatchResult-from_err _ _ _ c.from_residual-in_err-tell_entries.ensures.0
    (λ _ w h. cut_turn _ c.args.host w _ told frames _ _ _ _ _ _ (c.turn.ensures.done w h)
    (broken_more o.told o.kept o.strange _ (o.taken c.turning.new.self) _ _ (o.notes c.turning.new.self) _ (g.N.Net.acts c.args.net.now) _ _ _
    (Turning c.args.host ∷ []) (map Tells told)
    (gone_turning o.told o.kept o.strange _ _ _ _ _ c.args.host
    (told_one o.told o.kept o.strange _ _ _ _ (Turning c.args.host) t.told t.kept (turning_usual o.strange g.met.O.Observer.strange_comes _ c.args.host)))
    (broken_untold o.told o.kept o.strange _ _ _ _ _ 64 told (map frame_datagram frames) c.turn.ensures.own
    (length-map frames frame_datagram ∙ (c.turn.ensures.done w h).numbers)
    (c.in_ok-send_frames.ensures.acts ∙ ap (listed (g.N.Net.acts c.args.net.now)) (acts_of frames)) c.in_err-tell_entries.ensures.err))
    (whole_listed _ _ _ c.in_ok-send_frames.ensures.ok) c.in_ok-send_frames.ensures.gave (g.met.H.LoopHosts.allows_none c.turn.new.self))

pub returns-in_err-turning-clause-midst : goal.returns-in_err-turning-clause-midst
returns-in_err-turning-clause-midst g c =
    let p = err_from_is_err_and c.from_residual.result c.from_residual.ensures.1 in
    rw (p.1, p.2) (seen_midst c.in_err-turning.field-0.0 c.in_err-turning.ensures.stranger)

pub returns-in_err-tell_entries-clause-midst : goal.returns-in_err-tell_entries-clause-midst
returns-in_err-tell_entries-clause-midst g c =
    let p = err_from_is_err_and c.from_residual-in_err-tell_entries.result c.from_residual-in_err-tell_entries.ensures.1 in
    rw (p.1, p.2) (seen_midst c.in_err-tell_entries.field-0.0 c.in_err-tell_entries.ensures.stranger)

pub returns-in_err-turning-clause-stepped : goal.returns-in_err-turning-clause-stepped
returns-in_err-turning-clause-stepped g c =
    let h = g.H.LoopHosts in
    stepped_none h.settings h.clock h.steps c.args.hosts.now 1

pub returns-in_err-send_frames-clause-stepped : goal.returns-in_err-send_frames-clause-stepped
returns-in_err-send_frames-clause-stepped g c = c.turn.ensures.stepped

pub returns-in_err-tell_entries-clause-stepped : goal.returns-in_err-tell_entries-clause-stepped
returns-in_err-tell_entries-clause-stepped g c = c.turn.ensures.stepped

pub returns-clause-stepped : goal.returns-clause-stepped
returns-clause-stepped g c = c.turn.ensures.stepped

pub returns-in_err-turning-clause-outside : goal.returns-in_err-turning-clause-outside
returns-in_err-turning-clause-outside g c =
    let n = g.N.Net in
    let o = g.O.Observer in
    let m = g.met.O.Observer in
    let e = c.in_err-turning.ensures in
    let p = err_from_is_err_and c.from_residual.result c.from_residual.ensures.1 in
    rw (p.1, p.2) (outside_untold n.known n.faults o.faults o.is_same m.same_self m.same_on c.args.net.now c.args.net.now c.args.observer.now
    c.turning.new.self c.in_err-turning.field-0.0 refl refl e.risen e.quiet e.same)

pub returns-in_err-send_frames-clause-outside : goal.returns-in_err-send_frames-clause-outside
returns-in_err-send_frames-clause-outside g c =
    let n = g.N.Net in
    let o = g.O.Observer in
    let m = g.met.O.Observer in
    let t = c.in_ok-turning.ensures in
    let e = c.in_err-send_frames.ensures in
    let p = err_from_is_err_and c.from_residual-in_err-send_frames.result c.from_residual-in_err-send_frames.ensures.1 in
    rw (p.1, p.2) (outside_on n.known n.faults o.faults o.is_same m.same_self m.same_on c.args.net.now c.args.net.now c.send_frames.new.net c.args.observer.now
    c.turning.new.self c.turning.new.self _
    (outside_went n.known n.faults o.faults o.is_same m.same_self m.same_on c.args.net.now c.args.net.now c.args.observer.now c.turning.new.self
    refl refl t.quiet t.same)
    (outside_lost n.known n.faults o.faults o.is_same m.same_self m.same_on c.args.net.now c.send_frames.new.net c.turning.new.self e.known e.risen))

pub returns-in_err-tell_entries-clause-outside : goal.returns-in_err-tell_entries-clause-outside
returns-in_err-tell_entries-clause-outside g c =
    let n = g.N.Net in
    let o = g.O.Observer in
    let m = g.met.O.Observer in
    let t = c.in_ok-turning.ensures in
    let f = c.in_ok-send_frames.ensures in
    let e = c.in_err-tell_entries.ensures in
    let p = err_from_is_err_and c.from_residual-in_err-tell_entries.result c.from_residual-in_err-tell_entries.ensures.1 in
    rw (p.1, p.2) (outside_on n.known n.faults o.faults o.is_same m.same_self m.same_on c.args.net.now c.args.net.now c.send_frames.new.net c.args.observer.now
    c.turning.new.self c.tell_entries.new.observer _
    (outside_went n.known n.faults o.faults o.is_same m.same_self m.same_on c.args.net.now c.args.net.now c.args.observer.now c.turning.new.self
    refl refl t.quiet t.same)
    (outside_untold n.known n.faults o.faults o.is_same m.same_self m.same_on c.args.net.now c.send_frames.new.net c.turning.new.self
    c.tell_entries.new.observer c.in_err-tell_entries.field-0.0 f.known f.quiet e.risen e.quiet e.same))

pub returns-clause-outside : goal.returns-clause-outside
returns-clause-outside g c =
    let n = g.N.Net in
    let o = g.O.Observer in
    let m = g.met.O.Observer in
    let t = c.in_ok-turning.ensures in
    let f = c.in_ok-send_frames.ensures in
    let e = c.in_ok-tell_entries.ensures in
    outside_on n.known n.faults o.faults o.is_same m.same_self m.same_on c.args.net.now c.args.net.now c.send_frames.new.net c.args.observer.now
    c.turning.new.self c.tell_entries.new.observer _
    (outside_went n.known n.faults o.faults o.is_same m.same_self m.same_on c.args.net.now c.args.net.now c.args.observer.now c.turning.new.self
    refl refl t.quiet t.same)
    (outside_went n.known n.faults o.faults o.is_same m.same_self m.same_on c.args.net.now c.send_frames.new.net c.turning.new.self
    c.tell_entries.new.observer f.known f.quiet e.quiet e.same)
