use Rattle.std.proofs.Common.{ap, refl, Ok, [], ◌∷◌, ◌∙◌, subst}
use Rattle.std.specs.Prelude.{map}
use Rattle.std.proofs.lemmas.List.{length-map}
use Rattle.node_turns.specs.Told.{listed, ListedFront, Hears}
use Rattle.node_turns.specs.Acting.{frame_datagram}
use Rattle.node_turns.proofs.Frames.{acts_of}
use Rattle.node_turns.proofs.Done.{gone_none, gone_step, broken_none, broken_unsent, broken_untold}
use Rattle.std.proofs.lemmas.Result.{err_from_is_err_and}
use Rattle.node_turns.proofs.Lists.{whole_listed, front_none}
use Rattle.node_turns.proofs.Tellings.{seen_midst}
use Rattle.homa_node.specs.Starting.{called}
use Rattle.homa_node.proofs.Starting.{acted_call}
use Rattle.homa_node.proofs.CallCuts.{cut_uncalled, cut_called, seen_cut, seen_call}
use Rattle.homa_node.proofs.Started.{ended_one}
use Rattle.node_turns.proofs.Same.{outside_memory, outside_went, outside_lost, outside_untold}
use Rattle.homa_node.proofs.calling.start_call.Goals as goal

pub returns-clause-acted : goal.returns-clause-acted
returns-clause-acted g c =
    let o = g.O.Observer in
    let told = g.H.LoopHosts.told c.call.new.self in
    let frames = g.H.LoopHosts.frames c.call.new.self in
    let done = c.in_ok-answer.ensures.done (ap (λ r. Ok r) c.in_default.is) in
    λ w h due held. acted_call (g.H.LoopHosts.settings c.args.hosts.now) held (called c.args.call.now c.args.request.now) w _
    (g.H.LoopHosts.told c.call.new.self) (g.H.LoopHosts.frames c.call.new.self) _ _ _ _ _ _ _ due
    (c.in_ok-answer.ensures.done (ap (λ r. Ok r) c.in_default.is) w h)
    (gone_step o.told o.kept o.strange _ _ _ _ _ _ 64 told (map frame_datagram frames) c.in_ok-answer.ensures.own
    (length-map frames frame_datagram ∙ (done w h).numbers)
    (c.in_ok-send_frames.ensures.acts ∙ ap (listed (g.N.Net.acts c.args.net.now)) (acts_of frames)) c.in_ok-tell_entries.ensures.ok)
    c.in_ok-send_frames.ensures.ok
    c.in_ok-send_frames.ensures.gave

pub returns-in_err-answer-clause-cut : goal.returns-in_err-answer-clause-cut
returns-in_err-answer-clause-cut g c =
    let o = g.O.Observer in
    let p = err_from_is_err_and c.from_residual.result c.from_residual.ensures.1 in
    rw (p.1, p.2) (λ w h due held. cut_uncalled (g.H.LoopHosts.settings c.args.hosts.now) held (called c.args.call.now c.args.request.now ∷ []) w _ _ _ _ _
    (broken_none o.told o.kept o.strange _ _ _ _ 64 refl) (front_none _ _ refl) refl (g.met.H.LoopHosts.allows_none c.args.hosts.now))

pub returns-in_err-send_frames-clause-cut : goal.returns-in_err-send_frames-clause-cut
returns-in_err-send_frames-clause-cut g c =
    let o = g.O.Observer in
    let told = g.H.LoopHosts.told c.call.new.self in
    let frames = g.H.LoopHosts.frames c.call.new.self in
    let done = c.in_ok-answer.ensures.done (ap (λ r. Ok r) c.in_default.is) in
    let p = err_from_is_err_and c.from_residual-in_err-send_frames.result c.from_residual-in_err-send_frames.ensures.1 in
    rw (p.1, p.2) (λ w h due held. cut_called (g.H.LoopHosts.settings c.args.hosts.now) held (called c.args.call.now c.args.request.now) w _
    (g.H.LoopHosts.told c.call.new.self) (g.H.LoopHosts.frames c.call.new.self) _ _ _ _ _ _ due
    (c.in_ok-answer.ensures.done (ap (λ r. Ok r) c.in_default.is) w h)
    (broken_unsent o.told o.kept o.strange _ _ _ _ 64 told (map frame_datagram frames) c.in_ok-answer.ensures.own
    (length-map frames frame_datagram ∙ (done w h).numbers) (subst (ListedFront _ _) (acts_of frames) c.in_err-send_frames.ensures.err_acts))
    c.in_err-send_frames.ensures.err c.in_err-send_frames.ensures.gave (g.met.H.LoopHosts.allows_none c.call.new.self))

pub returns-in_err-tell_entries-clause-cut : goal.returns-in_err-tell_entries-clause-cut
returns-in_err-tell_entries-clause-cut g c =
    let o = g.O.Observer in
    let told = g.H.LoopHosts.told c.call.new.self in
    let frames = g.H.LoopHosts.frames c.call.new.self in
    let done = c.in_ok-answer.ensures.done (ap (λ r. Ok r) c.in_default.is) in
    let p = err_from_is_err_and c.from_residual-in_err-tell_entries.result c.from_residual-in_err-tell_entries.ensures.1 in
    rw (p.1, p.2) (seen_cut c.in_err-tell_entries.field-0.0 _
    (λ w h due held. cut_called (g.H.LoopHosts.settings c.args.hosts.now) held (called c.args.call.now c.args.request.now) w _
    (g.H.LoopHosts.told c.call.new.self) (g.H.LoopHosts.frames c.call.new.self) _ _ _ _ _ _ due
    (done w h)
    (broken_untold o.told o.kept o.strange _ _ _ _ _ 64 told (map frame_datagram frames) c.in_ok-answer.ensures.own
    (length-map frames frame_datagram ∙ (done w h).numbers)
    (c.in_ok-send_frames.ensures.acts ∙ ap (listed (g.N.Net.acts c.args.net.now)) (acts_of frames)) c.in_err-tell_entries.ensures.err)
    (whole_listed _ _ _ c.in_ok-send_frames.ensures.ok) c.in_ok-send_frames.ensures.gave (g.met.H.LoopHosts.allows_none c.call.new.self)))

pub returns-in_err-tell_entries-clause-stops : goal.returns-in_err-tell_entries-clause-stops
returns-in_err-tell_entries-clause-stops g c =
    let p = err_from_is_err_and c.from_residual-in_err-tell_entries.result c.from_residual-in_err-tell_entries.ensures.1 in
    rw (p.1, p.2) (seen_call c.in_err-tell_entries.field-0.0 (seen_midst c.in_err-tell_entries.field-0.0 c.in_err-tell_entries.ensures.stranger))

pub returns-in-Err-clause-refused : goal.returns-in-Err-clause-refused
returns-in-Err-clause-refused g c =
    let o = g.O.Observer in
    λ w h due held. ended_one (g.H.LoopHosts.settings c.args.hosts.now) held (called c.args.call.now c.args.request.now) w _ _ _ _ c.in-Err.fault due
    ((rw c.in-Err.is at c.in_ok-answer.ensures.fault) w h)
    (gone_none o.told o.kept o.strange _ _ _ (Hears 64)) (g.met.H.LoopHosts.allows_none c.args.hosts.now)

pub returns-in_err-answer-clause-stepped : goal.returns-in_err-answer-clause-stepped
returns-in_err-answer-clause-stepped g c = c.call.ensures.stepped

pub returns-in-Err-clause-stepped : goal.returns-in-Err-clause-stepped
returns-in-Err-clause-stepped g c = c.call.ensures.stepped

pub returns-in_err-send_frames-clause-stepped : goal.returns-in_err-send_frames-clause-stepped
returns-in_err-send_frames-clause-stepped g c = c.call.ensures.stepped

pub returns-in_err-tell_entries-clause-stepped : goal.returns-in_err-tell_entries-clause-stepped
returns-in_err-tell_entries-clause-stepped g c = c.call.ensures.stepped

pub returns-clause-stepped : goal.returns-clause-stepped
returns-clause-stepped g c = c.call.ensures.stepped

pub returns-in_err-answer-clause-outside : goal.returns-in_err-answer-clause-outside
returns-in_err-answer-clause-outside g c =
    let n = g.N.Net in
    let o = g.O.Observer in
    let m = g.met.O.Observer in
    let p = err_from_is_err_and c.from_residual.result c.from_residual.ensures.1 in
    rw (p.1, p.2) (outside_memory n.known n.faults o.faults o.is_same m.same_self m.same_on c.args.net.now c.args.observer.now)

pub returns-in-Err-clause-outside : goal.returns-in-Err-clause-outside
returns-in-Err-clause-outside g c =
    let m = g.met.O.Observer in
    record { known = refl; faults = refl; same = m.same_self c.args.observer.now }

pub returns-in_err-send_frames-clause-outside : goal.returns-in_err-send_frames-clause-outside
returns-in_err-send_frames-clause-outside g c =
    let n = g.N.Net in
    let o = g.O.Observer in
    let m = g.met.O.Observer in
    let e = c.in_err-send_frames.ensures in
    let p = err_from_is_err_and c.from_residual-in_err-send_frames.result c.from_residual-in_err-send_frames.ensures.1 in
    rw (p.1, p.2) (outside_lost n.known n.faults o.faults o.is_same m.same_self m.same_on c.args.net.now c.send_frames.new.net c.args.observer.now
    e.known e.risen)

pub returns-in_err-tell_entries-clause-outside : goal.returns-in_err-tell_entries-clause-outside
returns-in_err-tell_entries-clause-outside g c =
    let n = g.N.Net in
    let o = g.O.Observer in
    let m = g.met.O.Observer in
    let f = c.in_ok-send_frames.ensures in
    let e = c.in_err-tell_entries.ensures in
    let p = err_from_is_err_and c.from_residual-in_err-tell_entries.result c.from_residual-in_err-tell_entries.ensures.1 in
    rw (p.1, p.2) (outside_untold n.known n.faults o.faults o.is_same m.same_self m.same_on c.args.net.now c.send_frames.new.net c.args.observer.now
    c.tell_entries.new.observer c.in_err-tell_entries.field-0.0 f.known f.quiet e.risen e.quiet e.same)

pub returns-clause-outside : goal.returns-clause-outside
returns-clause-outside g c =
    let n = g.N.Net in
    let o = g.O.Observer in
    let m = g.met.O.Observer in
    let f = c.in_ok-send_frames.ensures in
    let e = c.in_ok-tell_entries.ensures in
    outside_went n.known n.faults o.faults o.is_same m.same_self m.same_on c.args.net.now c.send_frames.new.net c.args.observer.now
    c.tell_entries.new.observer f.known f.quiet e.quiet e.same
