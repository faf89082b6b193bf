use Rattle.std.proofs.Common.{arith, ◌∙◌}
use Rattle.std.proofs.lemmas.Result.{err_from_is_err_and}
use Rattle.homa_plain.specs.Script.{GivenEvent, GivenTicks}
use Rattle.bench_script.proofs.Counts.{count_more, count_end, count_stop}
use Rattle.bench_script.proofs.count_events.Goals as goal

pub returns-in_err-next-clause-stop : goal.returns-in_err-next-clause-stop
returns-in_err-next-clause-stop g c =
    let l = c.loop-events in
    let r = c.from_residual-in_err-next in
    let p = err_from_is_err_and r.result r.ensures.1 in
    rw (p.1, p.2) (count_stop 68719476736 l.reader.place c.next.new.self.place l.events c.next.new.self.operand _ _ _ c.in_err-next.field-0.0
    l.invariant.due (c.in_err-next.ensures.next l.invariant.running))

pub loop-events-preserved-in-Event : goal.loop-events-preserved-in-Event
loop-events-preserved-in-Event g c =
    let l = c.loop-events in
    let e = c.in_ok-next.ensures in
    let new = c.next.new.self in
    let on = rw c.in-Event.is at e.on in
    record {
      due = count_more 68719476736 l.reader.place new.place l.events new.place.number (GivenEvent c.in-Event.field-0 new.operand) _ _ _
          l.invariant.due (rw c.in-Event.is at (e.next l.invariant.running));
      started = e.started;
      not_ended = rw c.in-Event.is at e.ended;
      running = e.stopped;
      counted = on.0;
      limit = e.limit ∙ l.invariant.limit;
      few = omega (arith, l.invariant.few, on.1);
    }

pub loop-events-preserved : goal.loop-events-preserved
loop-events-preserved g c =
    let l = c.loop-events in
    let e = c.in_ok-next.ensures in
    let new = c.next.new.self in
    let on = rw c.in-Ticks.is at e.on in
    let range = rw c.in-Ticks.is at e.range in
    record {
      due = rw c.from-events.ensures
          (count_more 68719476736 l.reader.place new.place l.events new.place.number (GivenTicks c.in-Ticks.n) _ _ _ l.invariant.due
          (rw c.in-Ticks.is at (e.next l.invariant.running)));
      started = e.started;
      not_ended = rw c.in-Ticks.is at e.ended;
      running = e.stopped;
      counted = on.0;
      limit = e.limit ∙ l.invariant.limit;
      few = omega (arith, c.from-events.ensures, range.1, l.invariant.few, on.1);
    }

pub returns-in-End-clause-count : goal.returns-in-End-clause-count
returns-in-End-clause-count g c =
    let l = c.loop-events in
    count_end 68719476736 l.reader.place l.events _ _ _ l.invariant.due (rw c.in-End.is at (c.in_ok-next.ensures.next l.invariant.running))
