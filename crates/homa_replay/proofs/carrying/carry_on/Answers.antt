use Rattle.std.proofs.Common.{◌≡◌, ◌≤◌, ◌∙◌, ap, sym, refl, arith, Ok, true, false, []}
use Rattle.homa_plain.specs.declared.fault.LineFault.TheVariants.{World as ByWorld, Script as ByScript}
use Rattle.homa_plain.specs.Replay.{Finished, RefusedAt, events_of}
use Rattle.homa_replay.specs.NextLine.{given_of}
use Rattle.homa_replay.specs.Progress.{left_at}
use Rattle.homa_replay.specs.declared.stop.Stop.TheVariants.{Write}
use Rattle.homa_plain.specs.Text.{line_text}
use Rattle.homa_plain.specs.Entries.{PlainRefused}
use Rattle.homa_io.specs.Outside.{appended}
use Rattle.script_lines.proofs.Takings.{lines_none, lines_on}
use Rattle.homa_replay.proofs.Behinds.{refuses_far}
use Rattle.homa_replay.proofs.Exits.{err_if, stop_of}
use Rattle.homa_replay.proofs.Fronts.{front_whole}
use Rattle.homa_replay.proofs.Fars.{far_start, fars_end}
use Rattle.homa_replay.proofs.Turns.{played_at, refused_at, cut_at}
use Rattle.homa_replay.proofs.LineSteps.{at_end, at_refusal, at_line, at_cut, line_done, line_refused, line_cut, last_cut, renumbered, few_events}
use Rattle.homa_replay.proofs.LineSteps.{line_on, line_ended, end_left, length-events}
use Rattle.homa_replay.proofs.carrying.carry_on.Goals as goal

pub lines-init : goal.lines-init
lines-init g c =
    let p = g.P.ReplayWorld in
    record {
      due = λ w h. (w, h, λ bytes e. far_start (left_at (p.settings c.args.world.now) w 0 c.args.reader.now.place) bytes _ _ (p.allows c.args.world.now) e);
      took = lines_none _ _;
      settings = refl;
      started = c.requires.started;
      not_ended = c.requires.not_ended;
      running = c.requires.running;
      counted = c.requires.counted;
      limit = c.requires.limit;
      few = omega arith;
      applied = omega (arith, c.requires.first);
      quiet_source = refl;
      quiet_sink = refl;
      same_source = g.met.S.Source.same_self _;
      same_sink = g.met.K.Sink.same_self _;
    }

pub returns-in_err-next-clause-part : goal.returns-in_err-next-clause-part
returns-in_err-next-clause-part g c =
    let l = c.lines in
    let s = g.P.ReplayWorld.settings c.args.world.now in
    err_if _ _ _ c.from_residual.ensures.1
    (λ w h. let d = l.invariant.due w h in
    at_cut (left_at s w 0 c.args.reader.now.place) _ _ _ _ _ _ _ _ s d.0 l.events l.reader.place c.read_ahead.new.reader.place [] c.in_err-next.ensures.taken
    d.2 _ (g.met.P.ReplayWorld.allows_none l.world) c.in_err-next.ensures.gives.read)

pub returns-in_err-put_refused-in-Err-clause-part : goal.returns-in_err-put_refused-in-Err-clause-part
returns-in_err-put_refused-in-Err-clause-part g c =
    let l = c.lines in
    let s = g.P.ReplayWorld.settings c.args.world.now in
    let new = c.read_ahead.new.reader in
    let next = rw c.in-Err.is at c.in_ok-next.ensures.gives.read in
    err_if _ Write _ (stop_of _ _ _ c.from_residual-in_err-put_refused-in-Err.ensures.1 c.in_err-put_refused-in-Err.ensures.stop)
    (λ w h. let d = l.invariant.due w h in
    last_cut (left_at s w 0 c.args.reader.now.place) _ _ _ _ _ _ _ (RefusedAt c.line.result (ByScript c.in-Err.fault))
    (renumbered (left_at s w 0 c.args.reader.now.place) _ _ _ _ _ _ c.line.result new.place.number (ByScript c.in-Err.fault) c.line.ensures
    (at_refusal (left_at s w 0 c.args.reader.now.place) _ _ _ _ _ _ _ _ s d.0 l.events l.reader.place new.place new.operand c.in_ok-next.ensures.taken
    d.2 c.in-Err.fault next))
    (g.met.P.ReplayWorld.allows_none l.world) c.in_err-put_refused-in-Err.ensures.err)

pub returns-in-Err-clause-printed : goal.returns-in-Err-clause-printed
returns-in-Err-clause-printed g c =
    let l = c.lines in
    let s = g.P.ReplayWorld.settings c.args.world.now in
    let new = c.read_ahead.new.reader in
    let next = rw c.in-Err.is at c.in_ok-next.ensures.gives.read in
    λ w h. let d = l.invariant.due w h in
    fars_end (left_at s w 0 c.args.reader.now.place) _ _ _ _ _ _ _ (RefusedAt c.line.result (ByScript c.in-Err.fault)) false
    (renumbered (left_at s w 0 c.args.reader.now.place) _ _ _ _ _ _ c.line.result new.place.number (ByScript c.in-Err.fault) c.line.ensures
    (at_refusal (left_at s w 0 c.args.reader.now.place) _ _ _ _ _ _ _ _ s d.0 l.events l.reader.place new.place new.operand c.in_ok-next.ensures.taken
    d.2 c.in-Err.fault next))
    (g.met.P.ReplayWorld.allows_none l.world) c.in_ok-put_refused-in-Err.ensures.ok refl

pub returns-in_err-put_entry-clause-part : goal.returns-in_err-put_entry-clause-part
returns-in_err-put_entry-clause-part g c =
    let l = c.lines in
    let s = g.P.ReplayWorld.settings c.args.world.now in
    let new = c.read_ahead.new.reader in
    let next = rw c.in-Ok.is at c.in_ok-next.ensures.gives.read in
    let ended = sym c.is_end.ensures ∙ c.if-is_end.true in
    err_if _ _ _ c.from_residual-in_err-put_entry.ensures.1
    (λ w h. let d = l.invariant.due w h in
    last_cut (left_at s w 0 c.args.reader.now.place) _ _ _ _ _ _ _ (Finished l.events)
    (at_end (left_at s w 0 c.args.reader.now.place) _ _ _ _ _ _ _ _ s d.0 l.events l.reader.place new.place new.operand c.in_ok-next.ensures.taken d.2
    c.in-Ok.next ended next)
    (g.met.P.ReplayWorld.allows_none l.world) c.in_err-put_entry.ensures.err)

pub returns-then-is_end-clause-printed : goal.returns-then-is_end-clause-printed
returns-then-is_end-clause-printed g c =
    let l = c.lines in
    let s = g.P.ReplayWorld.settings c.args.world.now in
    let new = c.read_ahead.new.reader in
    let next = rw c.in-Ok.is at c.in_ok-next.ensures.gives.read in
    let ended = sym c.is_end.ensures ∙ c.if-is_end.true in
    λ w h. let d = l.invariant.due w h in
    fars_end (left_at s w 0 c.args.reader.now.place) _ _ _ _ _ _ _ (Finished l.events) true
    (at_end (left_at s w 0 c.args.reader.now.place) _ _ _ _ _ _ _ _ s d.0 l.events l.reader.place new.place new.operand c.in_ok-next.ensures.taken d.2
    c.in-Ok.next ended next)
    (g.met.P.ReplayWorld.allows_none l.world) c.in_ok-put_entry.ensures.ok refl

pub returns-then-is_end-clause-to_end : goal.returns-then-is_end-clause-to_end
returns-then-is_end-clause-to_end g c =
    let l = c.lines in
    let s = g.P.ReplayWorld.settings c.args.world.now in
    let new = c.read_ahead.new.reader in
    let next = rw c.in-Ok.is at c.in_ok-next.ensures.gives.read in
    let ended = sym c.is_end.ensures ∙ c.if-is_end.true in
    λ _ w h bytes e. let d = l.invariant.due w h in
    end_left (left_at s w 0 c.args.reader.now.place) _ _ _ _ _ _ _ l.reader.place new.place new.operand
    (left_at s d.0 l.events l.reader.place) c.in-Ok.next d.2 ended next bytes e

pub returns-in_err-refused-clause-part : goal.returns-in_err-refused-clause-part
returns-in_err-refused-clause-part g c =
    let l = c.lines in
    let s = g.P.ReplayWorld.settings c.args.world.now in
    let new = c.read_ahead.new.reader in
    let next = rw c.in-Ok.is at c.in_ok-next.ensures.gives.read in
    let going = sym c.is_end.ensures ∙ c.if-is_end.false in
    let given = given_of c.in-Ok.next c.bytes.result.now in
    let es = events_of c.args.hosts given in
    err_if _ _ _ c.from_residual-in_err-refused.ensures.1
    (λ w h. let d = l.invariant.due w h in
    line_cut (left_at s w 0 c.args.reader.now.place) _ _ _ _ _ _ _ s d.0 l.events new.place.number es new.place
    (at_line (left_at s w 0 c.args.reader.now.place) _ _ _ _ _ _ _ _ s d.0 l.events l.reader.place new.place new.operand c.in_ok-next.ensures.taken
    d.2 c.in-Ok.next given c.args.hosts going (ap (given_of c.in-Ok.next) (sym c.bytes.ensures.bytes)) (sym c.requires.hosts) next)
    _ (cut_at _ s d.0 _ _ _ l.invariant.settings es _ (c.in_err-refused.ensures.plays.cut d.0 d.1)))

pub returns-in_err-put_refused-clause-part : goal.returns-in_err-put_refused-clause-part
returns-in_err-put_refused-clause-part g c =
    let l = c.lines in
    let s = g.P.ReplayWorld.settings c.args.world.now in
    let new = c.read_ahead.new.reader in
    let next = rw c.in-Ok.is at c.in_ok-next.ensures.gives.read in
    let going = sym c.is_end.ensures ∙ c.if-is_end.false in
    let given = given_of c.in-Ok.next c.bytes.result.now in
    let es = events_of c.args.hosts given in
    let refused = rw c.in-Some.is at c.in_ok-refused.ensures.plays.refused in
    err_if _ Write _ (stop_of _ _ _ c.from_residual-in_err-put_refused.ensures.1 c.in_err-put_refused.ensures.stop)
    (λ w h. let d = l.invariant.due w h in
    last_cut (left_at s w 0 c.args.reader.now.place) _ _ _ _ _ _ (λ more. more ≡ []) (RefusedAt c.line-in-Some.result (ByWorld c.in-Some.fault))
    (renumbered (left_at s w 0 c.args.reader.now.place) _ _ _ _ _ (λ more. more ≡ []) c.line-in-Some.result new.place.number
    (ByWorld c.in-Some.fault) c.line-in-Some.ensures
    (line_refused (left_at s w 0 c.args.reader.now.place) _ _ _ _ _ _ _ s d.0 l.events new.place.number es new.place
    (at_line (left_at s w 0 c.args.reader.now.place) _ _ _ _ _ _ _ _ s d.0 l.events l.reader.place new.place new.operand c.in_ok-next.ensures.taken
    d.2 c.in-Ok.next given c.args.hosts going (ap (given_of c.in-Ok.next) (sym c.bytes.ensures.bytes)) (sym c.requires.hosts) next)
    c.in-Some.fault (refused_at _ s d.0 _ _ _ l.invariant.settings es c.in-Some.fault (refused d.0 d.1))))
    refl c.in_err-put_refused.ensures.err)

pub returns-in-Some-clause-printed : goal.returns-in-Some-clause-printed
returns-in-Some-clause-printed g c =
    let l = c.lines in
    let s = g.P.ReplayWorld.settings c.args.world.now in
    let new = c.read_ahead.new.reader in
    let next = rw c.in-Ok.is at c.in_ok-next.ensures.gives.read in
    let going = sym c.is_end.ensures ∙ c.if-is_end.false in
    let given = given_of c.in-Ok.next c.bytes.result.now in
    let es = events_of c.args.hosts given in
    let refused = rw c.in-Some.is at c.in_ok-refused.ensures.plays.refused in
    λ w h. let d = l.invariant.due w h in
    fars_end (left_at s w 0 c.args.reader.now.place) _ _ _ _ _ (λ more. more ≡ []) _ (RefusedAt c.line-in-Some.result (ByWorld c.in-Some.fault)) false
    (renumbered (left_at s w 0 c.args.reader.now.place) _ _ _ _ _ (λ more. more ≡ []) c.line-in-Some.result new.place.number
    (ByWorld c.in-Some.fault) c.line-in-Some.ensures
    (line_refused (left_at s w 0 c.args.reader.now.place) _ _ _ _ _ _ _ s d.0 l.events new.place.number es new.place
    (at_line (left_at s w 0 c.args.reader.now.place) _ _ _ _ _ _ _ _ s d.0 l.events l.reader.place new.place new.operand c.in_ok-next.ensures.taken
    d.2 c.in-Ok.next given c.args.hosts going (ap (given_of c.in-Ok.next) (sym c.bytes.ensures.bytes)) (sym c.requires.hosts) next)
    c.in-Some.fault (refused_at _ s d.0 _ _ _ l.invariant.settings es c.in-Some.fault (refused d.0 d.1))))
    refl c.in_ok-put_refused.ensures.ok refl

pub lines-preserved : goal.lines-preserved
lines-preserved g c =
    let l = c.lines in
    let s = g.P.ReplayWorld.settings c.args.world.now in
    let new = c.read_ahead.new.reader in
    let e = c.in_ok-next.ensures in
    let r = c.in_ok-refused.ensures in
    let next = rw c.in-Ok.is at e.gives.read in
    let range = rw c.in-Ok.is at e.gives.range in
    let going = sym c.is_end.ensures ∙ c.if-is_end.false in
    let given = given_of c.in-Ok.next c.bytes.result.now in
    let es = events_of c.args.hosts given in
    let n = c.line_events-events.result in
    let on = line_on l.reader.place new.place c.in-Ok.next going (rw c.in-Ok.is at e.gives.on) in
    let most : n ≤ 3300000 = omega (arith, c.line_events-events.ensures, few_events c.args.hosts c.in-Ok.next c.requires.few range) in
    record {
      due = λ w h.
          let d = l.invariant.due w h in
          let a = played_at _ s d.0 _ _ _ l.invariant.settings es _ _ (r.plays.played (ap Ok c.in_default.is) d.0 d.1) in (
            a.next,
            a.stood,
            line_done (left_at s w 0 c.args.reader.now.place) _ _ _ _ _ _ _ s d.0 l.events new.place.number es new.place
                (at_line (left_at s w 0 c.args.reader.now.place) _ _ _ _ _ _ _ _ s d.0 l.events l.reader.place new.place new.operand e.taken d.2
                c.in-Ok.next given c.args.hosts going (ap (given_of c.in-Ok.next) (sym c.bytes.ensures.bytes)) (sym c.requires.hosts) next)
                _ _ n (length-events c.args.hosts c.in-Ok.next c.bytes.result.now going ∙ sym c.line_events-events.ensures) a,
          );
      took = lines_on _ _ _ _ _ _ l.invariant.took e.took;
      settings = r.settings ∙ l.invariant.settings;
      started = e.started;
      not_ended = rw c.in-Ok.is at e.gives.ended ∙ line_ended c.in-Ok.next going;
      running = rw c.in-Ok.is at e.gives.stopped;
      counted = on.0;
      limit = e.limit ∙ l.invariant.limit;
      few = omega (arith, most, on.1, l.invariant.few);
      applied = omega (arith, r.counted, l.invariant.applied, c.line_events-events.ensures);
      quiet_source = e.left.faults.quiet_source ∙ l.invariant.quiet_source;
      quiet_sink = r.sink.quiet ∙ (e.left.faults.quiet_sink ∙ l.invariant.quiet_sink);
      same_source = g.met.S.Source.same_on _ _ _ l.invariant.same_source e.left.same_source;
      same_sink = g.met.K.Sink.same_on _ _ _ l.invariant.same_sink (g.met.K.Sink.same_on _ _ _ e.left.same_sink r.sink.same);
    }

pub returns-in-Err-clause-front : goal.returns-in-Err-clause-front
returns-in-Err-clause-front g c =
    let l = c.lines in
    let s = g.P.ReplayWorld.settings c.args.world.now in
    let new = c.read_ahead.new.reader in
    let next = rw c.in-Err.is at c.in_ok-next.ensures.gives.read in
    (λ w h. let d = l.invariant.due w h in
    last_cut (left_at s w 0 c.args.reader.now.place) _ _ _ _ _ _ _ (RefusedAt c.line.result (ByScript c.in-Err.fault))
    (renumbered (left_at s w 0 c.args.reader.now.place) _ _ _ _ _ _ c.line.result new.place.number (ByScript c.in-Err.fault) c.line.ensures
    (at_refusal (left_at s w 0 c.args.reader.now.place) _ _ _ _ _ _ _ _ s d.0 l.events l.reader.place new.place new.operand c.in_ok-next.ensures.taken
    d.2 c.in-Err.fault next))
    (g.met.P.ReplayWorld.allows_none l.world) (front_whole _ _ _ c.in_ok-put_refused-in-Err.ensures.ok))

pub returns-then-is_end-clause-front : goal.returns-then-is_end-clause-front
returns-then-is_end-clause-front g c =
    let l = c.lines in
    let s = g.P.ReplayWorld.settings c.args.world.now in
    let new = c.read_ahead.new.reader in
    let next = rw c.in-Ok.is at c.in_ok-next.ensures.gives.read in
    let ended = sym c.is_end.ensures ∙ c.if-is_end.true in
    (λ w h. let d = l.invariant.due w h in
    last_cut (left_at s w 0 c.args.reader.now.place) _ _ _ _ _ _ _ (Finished l.events)
    (at_end (left_at s w 0 c.args.reader.now.place) _ _ _ _ _ _ _ _ s d.0 l.events l.reader.place new.place new.operand c.in_ok-next.ensures.taken d.2
    c.in-Ok.next ended next)
    (g.met.P.ReplayWorld.allows_none l.world) (front_whole _ _ _ c.in_ok-put_entry.ensures.ok))

pub returns-in-Some-clause-front : goal.returns-in-Some-clause-front
returns-in-Some-clause-front g c =
    let l = c.lines in
    let s = g.P.ReplayWorld.settings c.args.world.now in
    let new = c.read_ahead.new.reader in
    let next = rw c.in-Ok.is at c.in_ok-next.ensures.gives.read in
    let going = sym c.is_end.ensures ∙ c.if-is_end.false in
    let given = given_of c.in-Ok.next c.bytes.result.now in
    let es = events_of c.args.hosts given in
    let refused = rw c.in-Some.is at c.in_ok-refused.ensures.plays.refused in
    (λ w h. let d = l.invariant.due w h in
    last_cut (left_at s w 0 c.args.reader.now.place) _ _ _ _ _ _ (λ more. more ≡ []) (RefusedAt c.line-in-Some.result (ByWorld c.in-Some.fault))
    (renumbered (left_at s w 0 c.args.reader.now.place) _ _ _ _ _ (λ more. more ≡ []) c.line-in-Some.result new.place.number
    (ByWorld c.in-Some.fault) c.line-in-Some.ensures
    (line_refused (left_at s w 0 c.args.reader.now.place) _ _ _ _ _ _ _ s d.0 l.events new.place.number es new.place
    (at_line (left_at s w 0 c.args.reader.now.place) _ _ _ _ _ _ _ _ s d.0 l.events l.reader.place new.place new.operand c.in_ok-next.ensures.taken
    d.2 c.in-Ok.next given c.args.hosts going (ap (given_of c.in-Ok.next) (sym c.bytes.ensures.bytes)) (sym c.requires.hosts) next)
    c.in-Some.fault (refused_at _ s d.0 _ _ _ l.invariant.settings es c.in-Some.fault (refused d.0 d.1))))
    refl (front_whole _ _ _ c.in_ok-put_refused.ensures.ok))

pub returns-in-Err-clause-behind : goal.returns-in-Err-clause-behind
returns-in-Err-clause-behind g c =
    let l = c.lines in
    let s = g.P.ReplayWorld.settings c.args.world.now in
    let e = c.in_ok-next.ensures in
    let text = line_text (PlainRefused c.line.result (ByScript c.in-Err.fault)) in
    λ _ w h.
    let d = l.invariant.due w h in
    refuses_far c.args.reader.now.place c.read_ahead.new.reader.place _ _ _ _ _ c.line.result (ByScript c.in-Err.fault)
    (c.in_ok-put_refused-in-Err.ensures.ok ∙ ap (λ o. appended o text) e.taken) c.line.ensures
    (lines_on _ _ _ _ _ _ l.invariant.took e.took) e.pending (left_at s w 0 c.args.reader.now.place)
    (left_at s d.0 l.events l.reader.place) _ _ _ d.2

pub returns-in-Some-clause-behind : goal.returns-in-Some-clause-behind
returns-in-Some-clause-behind g c =
    let l = c.lines in
    let s = g.P.ReplayWorld.settings c.args.world.now in
    let new = c.read_ahead.new.reader in
    let e = c.in_ok-next.ensures in
    let next = rw c.in-Ok.is at e.gives.read in
    let going = sym c.is_end.ensures ∙ c.if-is_end.false in
    let given = given_of c.in-Ok.next c.bytes.result.now in
    let es = events_of c.args.hosts given in
    let refused = rw c.in-Some.is at c.in_ok-refused.ensures.plays.refused in
    λ _ w h.
    let d = l.invariant.due w h in
    refuses_far c.args.reader.now.place new.place _ _ _ _ _ c.line-in-Some.result (ByWorld c.in-Some.fault)
    c.in_ok-put_refused.ensures.ok c.line-in-Some.ensures (lines_on _ _ _ _ _ _ l.invariant.took e.took) e.pending
    (left_at s w 0 c.args.reader.now.place) _ _ _ _
    (line_refused (left_at s w 0 c.args.reader.now.place) _ _ _ _ _ _ _ s d.0 l.events new.place.number es new.place
    (at_line (left_at s w 0 c.args.reader.now.place) _ _ _ _ _ _ _ _ s d.0 l.events l.reader.place new.place new.operand e.taken d.2 c.in-Ok.next
    given c.args.hosts going (ap (given_of c.in-Ok.next) (sym c.bytes.ensures.bytes)) (sym c.requires.hosts) next)
    c.in-Some.fault (refused_at _ s d.0 _ _ _ l.invariant.settings es c.in-Some.fault (refused d.0 d.1)))
