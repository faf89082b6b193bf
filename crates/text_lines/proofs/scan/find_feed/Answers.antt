use Rattle.std.proofs.Common.{◌+◌, ◌<◌, ◌≤◌, length, arith, refl, ap, ◌∙◌}
use Rattle.std.proofs.lemmas.Result.{MatchResult-from_err, IfOk-from_err}
use Rattle.homa_plain.specs.Input.{has_no_feed}
use Rattle.text_lines.specs.Input.{pending_of}
use Rattle.text_lines.proofs.Feeds.{feed_behind, feed_is_byte}
use Rattle.homa_io.proofs.Counts.{risen_behind, kept_behind}
use Rattle.text_lines.proofs.InLine.{in_line_start, in_line_then, in_line_more, in_line_over, in_line_stops, whole_end, whole_feed, no_bytes, some_bytes}
use Rattle.text_lines.proofs.scan.find_feed.Goals as goal

pub loop-n-init : goal.loop-n-init
loop-n-init g c =
    record {
      line = in_line_start _ _ _ c.clear.ensures.none;
      room = c.clear.ensures.room;
      within = omega arith;
      stays = λ h. (refl, h);
      quiet = refl;
      same = g.met.S.Source.same_self _;
    }

pub returns-in_err-fill-clause-err : goal.returns-in_err-fill-clause-err
returns-in_err-fill-clause-err g c =
    MatchResult-from_err _ _ _ c.from_residual.ensures.0
    (λ _. in_line_stops _ _ _ _ _ _ c.loop-n.invariant.line c.fill.ensures.taken c.in_err-fill.ensures.none)

pub returns-then-is_feed-clause-found : goal.returns-then-is_feed-clause-found
returns-then-is_feed-clause-found g c =
    let pending = c.pending-pending.ensures in
    let front = c.before_feed-len.ensures in
    let so_far = in_line_then _ _ _ _ _ _ _ c.loop-n.invariant.line c.fill.ensures.taken in
    let fits : c.before_feed-len.result.0 ≤ length (pending_of c.fill.new.self) = omega (arith, ap length pending, front.within) in
    let more = in_line_more _ _ _ _ c.loop-n.n c.before_feed-len.result.0 _ so_far (rw pending at front.before) fits (rw pending at c.add.ensures.added) in
    let feed = rw pending at front.feed c.if-is_feed.true in
    let within : c.loop-n.n + c.before_feed-len.result.0 < c.args.most = omega (arith, feed.0, c.loop-n-test.true) in
    rw (c.add.ensures.room, c.take.ensures) (whole_feed _ _ _ _ _ (c.loop-n.n + c.before_feed-len.result.0) c.args.most more feed.1 within)

pub loop-n-preserved : goal.loop-n-preserved
loop-n-preserved g c =
    let pending = c.pending-pending.ensures in
    let front = c.before_feed-len.ensures in
    let so_far = in_line_then _ _ _ _ _ _ _ c.loop-n.invariant.line c.fill.ensures.taken in
    let fits : c.before_feed-len.result.0 ≤ length (pending_of c.fill.new.self) = omega (arith, ap length pending, front.within) in
    let more = in_line_more _ _ _ _ c.loop-n.n c.before_feed-len.result.0 _ so_far (rw pending at front.before) fits (rw pending at c.add.ensures.added) in
    record {
      line = rw (c.add.ensures.room, c.take-in-loop-n.ensures) more;
      room = c.add.ensures.room ∙ c.loop-n.invariant.room;
      within = omega (arith, front.most, c.loop-n-test.true);
      stays = λ h.
          let before = c.loop-n.invariant.stays h in
          let filled = c.fill.ensures.pending (feed_is_byte _ before.1) in
          let has = ap (λ i. has_no_feed (pending_of i)) filled.0 ∙ before.1 in
          (filled.1 ∙ before.0, ap has_no_feed c.take-in-loop-n.ensures ∙ feed_behind c.before_feed-len.result.0 _ has (rw pending at front.before));
      quiet = c.in_ok-fill.ensures.quiet ∙ c.loop-n.invariant.quiet;
      same = g.met.S.Source.same_on _ _ _ c.loop-n.invariant.same c.fill.ensures.same;
    }

pub returns-in_err-fill-2-clause-err : goal.returns-in_err-fill-2-clause-err
returns-in_err-fill-2-clause-err g c =
    MatchResult-from_err _ _ _ c.from_residual-in_err-fill-2.ensures.0
    (λ _. in_line_stops _ _ _ _ _ _ c.loop-n.invariant.line c.fill-2.ensures.taken c.in_err-fill-2.ensures.none)

pub returns-clause-found : goal.returns-clause-found
returns-clause-found g c =
    let so_far = in_line_then _ _ _ _ _ _ _ c.loop-n.invariant.line c.fill-2.ensures.taken in
    let some = some_bytes _ _ _ c.pending.ensures c.is_empty-2.ensures c.if-is_empty-2.false in
    rw c.take-2.ensures (in_line_over _ _ _ _ _ _ so_far some (omega arith))

pub returns-in_err-fill-clause-found : goal.returns-in_err-fill-clause-found
returns-in_err-fill-clause-found g c = IfOk-from_err _ _ c.from_residual.ensures.0

pub returns-in_err-fill-clause-risen : goal.returns-in_err-fill-clause-risen
returns-in_err-fill-clause-risen g c =
    MatchResult-from_err _ _ _ c.from_residual.ensures.0 (λ _. risen_behind _ _ _ c.loop-n.invariant.quiet c.in_err-fill.ensures.risen)

pub returns-in_err-fill-clause-quiet : goal.returns-in_err-fill-clause-quiet
returns-in_err-fill-clause-quiet g c = IfOk-from_err _ _ c.from_residual.ensures.0

pub returns-in_err-fill-clause-room : goal.returns-in_err-fill-clause-room
returns-in_err-fill-clause-room g c = c.loop-n.invariant.room

pub returns-in_err-fill-clause-stays : goal.returns-in_err-fill-clause-stays
returns-in_err-fill-clause-stays g c = λ h.
    let before = c.loop-n.invariant.stays h in
    (c.fill.ensures.pending (feed_is_byte _ before.1)).1 ∙ before.0

pub returns-in_err-fill-clause-never_falls : goal.returns-in_err-fill-clause-never_falls
returns-in_err-fill-clause-never_falls g c = kept_behind _ _ _ c.loop-n.invariant.quiet c.fill.ensures.never_falls

pub returns-in_err-fill-clause-same : goal.returns-in_err-fill-clause-same
returns-in_err-fill-clause-same g c = g.met.S.Source.same_on _ _ _ c.loop-n.invariant.same c.fill.ensures.same

pub returns-then-is_empty-clause-found : goal.returns-then-is_empty-clause-found
returns-then-is_empty-clause-found g c =
    let none = no_bytes _ _ _ c.pending-pending.ensures c.is_empty.ensures c.if-is_empty.true in
    (whole_end _ _ _ _ _ _ _ c.loop-n.invariant.line c.fill.ensures.taken none (c.in_ok-fill.ensures.end none) c.loop-n.invariant.within)

pub returns-then-is_empty-clause-room : goal.returns-then-is_empty-clause-room
returns-then-is_empty-clause-room g c = c.loop-n.invariant.room

pub returns-then-is_empty-clause-stays : goal.returns-then-is_empty-clause-stays
returns-then-is_empty-clause-stays g c = λ h.
    let before = c.loop-n.invariant.stays h in
    (c.fill.ensures.pending (feed_is_byte _ before.1)).1 ∙ before.0

pub returns-then-is_empty-clause-never_falls : goal.returns-then-is_empty-clause-never_falls
returns-then-is_empty-clause-never_falls g c = kept_behind _ _ _ c.loop-n.invariant.quiet c.fill.ensures.never_falls

pub returns-then-is_empty-clause-same : goal.returns-then-is_empty-clause-same
returns-then-is_empty-clause-same g c = g.met.S.Source.same_on _ _ _ c.loop-n.invariant.same c.fill.ensures.same

pub returns-then-is_empty-clause-quiet : goal.returns-then-is_empty-clause-quiet
returns-then-is_empty-clause-quiet g c = c.in_ok-fill.ensures.quiet ∙ c.loop-n.invariant.quiet

pub returns-then-is_feed-clause-room : goal.returns-then-is_feed-clause-room
returns-then-is_feed-clause-room g c = c.add.ensures.room ∙ c.loop-n.invariant.room

pub returns-then-is_feed-clause-stays : goal.returns-then-is_feed-clause-stays
returns-then-is_feed-clause-stays g c = λ h.
    let before = c.loop-n.invariant.stays h in
    (c.fill.ensures.pending (feed_is_byte _ before.1)).1 ∙ before.0

pub returns-then-is_feed-clause-never_falls : goal.returns-then-is_feed-clause-never_falls
returns-then-is_feed-clause-never_falls g c = kept_behind _ _ _ c.loop-n.invariant.quiet c.fill.ensures.never_falls

pub returns-then-is_feed-clause-same : goal.returns-then-is_feed-clause-same
returns-then-is_feed-clause-same g c = g.met.S.Source.same_on _ _ _ c.loop-n.invariant.same c.fill.ensures.same

pub returns-then-is_feed-clause-quiet : goal.returns-then-is_feed-clause-quiet
returns-then-is_feed-clause-quiet g c = c.in_ok-fill.ensures.quiet ∙ c.loop-n.invariant.quiet

pub returns-in_err-fill-2-clause-found : goal.returns-in_err-fill-2-clause-found
returns-in_err-fill-2-clause-found g c = IfOk-from_err _ _ c.from_residual-in_err-fill-2.ensures.0

pub returns-in_err-fill-2-clause-risen : goal.returns-in_err-fill-2-clause-risen
returns-in_err-fill-2-clause-risen g c =
    MatchResult-from_err _ _ _ c.from_residual-in_err-fill-2.ensures.0 (λ _. risen_behind _ _ _ c.loop-n.invariant.quiet c.in_err-fill-2.ensures.risen)

pub returns-in_err-fill-2-clause-quiet : goal.returns-in_err-fill-2-clause-quiet
returns-in_err-fill-2-clause-quiet g c = IfOk-from_err _ _ c.from_residual-in_err-fill-2.ensures.0

pub returns-in_err-fill-2-clause-room : goal.returns-in_err-fill-2-clause-room
returns-in_err-fill-2-clause-room g c = c.loop-n.invariant.room

pub returns-in_err-fill-2-clause-stays : goal.returns-in_err-fill-2-clause-stays
returns-in_err-fill-2-clause-stays g c = λ h.
    let before = c.loop-n.invariant.stays h in
    (c.fill-2.ensures.pending (feed_is_byte _ before.1)).1 ∙ before.0

pub returns-in_err-fill-2-clause-never_falls : goal.returns-in_err-fill-2-clause-never_falls
returns-in_err-fill-2-clause-never_falls g c = kept_behind _ _ _ c.loop-n.invariant.quiet c.fill-2.ensures.never_falls

pub returns-in_err-fill-2-clause-same : goal.returns-in_err-fill-2-clause-same
returns-in_err-fill-2-clause-same g c = g.met.S.Source.same_on _ _ _ c.loop-n.invariant.same c.fill-2.ensures.same

pub returns-then-is_empty-2-clause-found : goal.returns-then-is_empty-2-clause-found
returns-then-is_empty-2-clause-found g c =
    let none = no_bytes _ _ _ c.pending.ensures c.is_empty-2.ensures c.if-is_empty-2.true in
    (whole_end _ _ _ _ _ _ _ c.loop-n.invariant.line c.fill-2.ensures.taken none (c.in_ok-fill-2.ensures.end none) c.loop-n.invariant.within)

pub returns-then-is_empty-2-clause-room : goal.returns-then-is_empty-2-clause-room
returns-then-is_empty-2-clause-room g c = c.loop-n.invariant.room

pub returns-then-is_empty-2-clause-stays : goal.returns-then-is_empty-2-clause-stays
returns-then-is_empty-2-clause-stays g c = λ h.
    let before = c.loop-n.invariant.stays h in
    (c.fill-2.ensures.pending (feed_is_byte _ before.1)).1 ∙ before.0

pub returns-then-is_empty-2-clause-never_falls : goal.returns-then-is_empty-2-clause-never_falls
returns-then-is_empty-2-clause-never_falls g c = kept_behind _ _ _ c.loop-n.invariant.quiet c.fill-2.ensures.never_falls

pub returns-then-is_empty-2-clause-same : goal.returns-then-is_empty-2-clause-same
returns-then-is_empty-2-clause-same g c = g.met.S.Source.same_on _ _ _ c.loop-n.invariant.same c.fill-2.ensures.same

pub returns-then-is_empty-2-clause-quiet : goal.returns-then-is_empty-2-clause-quiet
returns-then-is_empty-2-clause-quiet g c = c.in_ok-fill-2.ensures.quiet ∙ c.loop-n.invariant.quiet

pub returns-clause-room : goal.returns-clause-room
returns-clause-room g c = c.loop-n.invariant.room

pub returns-clause-stays : goal.returns-clause-stays
returns-clause-stays g c = λ h.
    let before = c.loop-n.invariant.stays h in
    (c.fill-2.ensures.pending (feed_is_byte _ before.1)).1 ∙ before.0

pub returns-clause-never_falls : goal.returns-clause-never_falls
returns-clause-never_falls g c = kept_behind _ _ _ c.loop-n.invariant.quiet c.fill-2.ensures.never_falls

pub returns-clause-same : goal.returns-clause-same
returns-clause-same g c = g.met.S.Source.same_on _ _ _ c.loop-n.invariant.same c.fill-2.ensures.same

pub returns-clause-quiet : goal.returns-clause-quiet
returns-clause-quiet g c = c.in_ok-fill-2.ensures.quiet ∙ c.loop-n.invariant.quiet
