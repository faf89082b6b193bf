use Rattle.std.proofs.Common.{arith, refl, sym, ap, ◌∙◌, map}
use Rattle.std.proofs.lemmas.Result.{err_from_is_err_and}
use Rattle.text_lines.specs.Lines.{reading}
use Rattle.script_lines.proofs.Taken.{taken, counted_on}
use Rattle.node_script.specs.Setup.{place_seen, call_seen}
use Rattle.node_script.specs.Heads.{setup_seen}
use Rattle.node_script.proofs.Calls.{due_blank, due_call, due_fault, due_end, due_stop}
use Rattle.node_script.proofs.Spoken.{long_call}
use Rattle.node_script.proofs.read.read_call.Goals as goal

pub lines-preserved : goal.lines-preserved
lines-preserved g c =
    let l = c.lines in
    let e = c.in_ok-next_line.ensures in
    let t = taken (reading l.lines)
    (reading c.next_line.new.lines) _ _ _ c.last_line.result.now c.if-branch.true e.line e.numbered e.goes.limit c.last_line.ensures.value in
    let s = setup_seen c.args.setup.now in
    record {
      due = due_blank s c.args.least (reading c.args.lines.now) _ _ _ _ _ _ l.invariant.due t c.number-number.result c.number-number.ensures
          (rw c.in_default.is at (c.in_ok-call.ensures.given s (ap (map place_seen) (sym c.deref.ensures.value), refl)));
      counted = counted_on _ _ _ _ _ l.invariant.counted t;
      on = omega (arith, t.on, l.invariant.on);
      limit = e.goes.limit ∙ l.invariant.limit;
      longest = e.goes.longest ∙ l.invariant.longest;
      capacity = omega (arith, c.in_ok-call.ensures.capacity, l.invariant.capacity);
      quiet = e.faults.quiet refl ∙ l.invariant.quiet;
      never_falls = omega (arith, e.faults.never_falls, l.invariant.never_falls);
      same = g.met.S.Source.same_on _ _ _ l.invariant.same e.faults.same;
    }

pub returns-in_err-next_line-clause-call : goal.returns-in_err-next_line-clause-call
returns-in_err-next_line-clause-call g c =
    let l = c.lines in
    let e = c.in_err-next_line.ensures in
    let p = err_from_is_err_and c.from_residual.result c.from_residual.ensures.1 in
    rw (p.1, p.2) (due_stop (setup_seen c.args.setup.now) c.args.least (reading c.args.lines.now) (reading l.lines)
    (reading c.next_line.new.lines) _ _ _ l.out.items c.in_err-next_line.field-0.0 l.invariant.due e.line e.numbered)

pub returns-in_err-call-clause-call : goal.returns-in_err-call-clause-call
returns-in_err-call-clause-call g c =
    let l = c.lines in
    let e = c.in_ok-next_line.ensures in
    let t = taken (reading l.lines)
    (reading c.next_line.new.lines) _ _ _ c.last_line.result.now c.if-branch.true e.line e.numbered e.goes.limit c.last_line.ensures.value in
    let s = setup_seen c.args.setup.now in
    let p = err_from_is_err_and c.from_residual-in_err-call.result c.from_residual-in_err-call.ensures.1 in
    rw (p.1, p.2) (due_fault s c.args.least (reading c.args.lines.now) _ _ _ _ _ _ l.invariant.due t c.number-number.result c.number-number.ensures
    c.in_err-call.field-0.0 (c.in_err-call.ensures.given s (ap (map place_seen) (sym c.deref.ensures.value), refl)))

pub returns-in-Some-clause-call : goal.returns-in-Some-clause-call
returns-in-Some-clause-call g c =
    let l = c.lines in
    let e = c.in_ok-next_line.ensures in
    let t = taken (reading l.lines)
    (reading c.next_line.new.lines) _ _ _ c.last_line.result.now c.if-branch.true e.line e.numbered e.goes.limit c.last_line.ensures.value in
    let s = setup_seen c.args.setup.now in
    due_call s c.args.least (reading c.args.lines.now) _ _ _ _ _ _ l.invariant.due t c.number-number.result c.number-number.ensures
    (call_seen c.in-Some.call c.read_timed_line.new.out.items)
    (rw c.in-Some.is at (c.in_ok-call.ensures.given s (ap (map place_seen) (sym c.deref.ensures.value), refl)))

pub returns-in-Some-clause-on : goal.returns-in-Some-clause-on
returns-in-Some-clause-on g c =
    let l = c.lines in
    let e = c.in_ok-next_line.ensures in
    let t = taken (reading l.lines)
    (reading c.next_line.new.lines) _ _ _ c.last_line.result.now c.if-branch.true e.line e.numbered e.goes.limit c.last_line.ensures.value in
    let s = setup_seen c.args.setup.now in
    let two = long_call s c.args.least c.number-number.result c.last_line.result.now (call_seen c.in-Some.call c.read_timed_line.new.out.items)
    (rw c.in-Some.is at (c.in_ok-call.ensures.given s (ap (map place_seen) (sym c.deref.ensures.value), refl))) in
    let sized = e.sized c.if-branch.true in
    (counted_on _ _ _ _ _ l.invariant.counted t, omega (arith, two, sized, c.last_line.ensures.short, l.invariant.on))

pub returns-clause-call : goal.returns-clause-call
returns-clause-call g c = due_end (setup_seen c.args.setup.now) c.args.least (reading c.args.lines.now) (reading c.lines.lines)
    (reading c.next_line.new.lines) _ _ _ _ c.lines.invariant.due c.if-branch.false c.in_ok-next_line.ensures.line
