use Rattle.std.proofs.Common.{arith, refl, ◌∙◌}
use Rattle.std.proofs.lemmas.Result.{err_from_is_err_and}
use Rattle.text_lines.specs.Lines.{reading}
use Rattle.homa_script.specs.Given.{given_seen}
use Rattle.script_lines.proofs.Takings.{lines_none, lines_on, goes_behind}
use Rattle.script_lines.proofs.Taken.{taken, counted_on}
use Rattle.homa_script.proofs.Steps.{due_start, due_blank, due_given, due_fault, due_end, due_stop}
use Rattle.homa_script.proofs.Sized.{long_line}
use Rattle.homa_script.proofs.read.next_given.Goals as goal

pub lines-init : goal.lines-init
lines-init g c = record {
  due = due_start (reading c.args.lines.now) _;
  took = lines_none _ _;
  counted = c.requires.script.counted;
  on = omega arith;
  limit = refl;
  longest = refl;
  capacity = omega arith;
  quiet = refl;
  never_falls = omega arith;
  same = g.met.S.Source.same_self _;
}

pub lines-preserved : goal.lines-preserved
lines-preserved g c =
    let l = c.lines in
    let e = c.in_ok-next_line.ensures in
    let t = taken (reading l.lines)
    (reading c.next_line.new.lines) _ _ _ c.last_line.result.now c.if-branch.true e.line e.numbered e.goes.limit c.last_line.ensures.value in
    record {
      due = due_blank (reading c.args.lines.now) _ _ _ _ _ _ l.invariant.due t (rw c.in_default.is at c.in_ok-given.ensures.phrase);
      took = lines_on _ _ _ _ _ _ l.invariant.took (e.goes.took refl);
      counted = counted_on _ _ _ _ _ l.invariant.counted t;
      on = omega (arith, t.on, l.invariant.on);
      limit = e.goes.limit ∙ l.invariant.limit;
      longest = e.goes.longest ∙ l.invariant.longest;
      capacity = omega (arith, c.in_ok-given.ensures.capacity, l.invariant.capacity);
      quiet = e.faults.quiet refl ∙ l.invariant.quiet;
      never_falls = omega (arith, e.faults.never_falls, l.invariant.never_falls);
      same = g.met.S.Source.same_on _ _ _ l.invariant.same e.faults.same;
    }

pub returns-in_err-next_line-clause-given : goal.returns-in_err-next_line-clause-given
returns-in_err-next_line-clause-given g c =
    let l = c.lines in
    let e = c.in_err-next_line.ensures in
    let p = err_from_is_err_and c.from_residual.result c.from_residual.ensures.1 in
    rw (p.1, p.2) (due_stop (reading c.args.lines.now) (reading l.lines)
    (reading c.next_line.new.lines) _ _ _ l.out.items c.in_err-next_line.field-0.0 l.invariant.due e.line e.numbered)

pub returns-in_err-given-clause-given : goal.returns-in_err-given-clause-given
returns-in_err-given-clause-given g c =
    let l = c.lines in
    let e = c.in_ok-next_line.ensures in
    let t = taken (reading l.lines)
    (reading c.next_line.new.lines) _ _ _ c.last_line.result.now c.if-branch.true e.line e.numbered e.goes.limit c.last_line.ensures.value in
    let p = err_from_is_err_and c.from_residual-in_err-given.result c.from_residual-in_err-given.ensures.1 in
    rw (p.1, p.2) (due_fault (reading c.args.lines.now) _ _ _ _ _ _ l.invariant.due t c.in_err-given.field-0.0 c.in_err-given.ensures.phrase)

pub returns-in-Some-clause-given : goal.returns-in-Some-clause-given
returns-in-Some-clause-given g c =
    let l = c.lines in
    let e = c.in_ok-next_line.ensures in
    let t = taken (reading l.lines)
    (reading c.next_line.new.lines) _ _ _ c.last_line.result.now c.if-branch.true e.line e.numbered e.goes.limit c.last_line.ensures.value in
    due_given (reading c.args.lines.now) _ _ _ _ _ _ l.invariant.due t (given_seen c.in-Some.given c.read_event_line.new.out.items)
    (rw c.in-Some.is at c.in_ok-given.ensures.phrase)

pub returns-clause-given : goal.returns-clause-given
returns-clause-given g c =
    due_end (reading c.args.lines.now) (reading c.lines.lines)
    (reading c.next_line.new.lines) _ _ _ _ c.lines.invariant.due c.if-branch.false c.in_ok-next_line.ensures.line

pub returns-in-Some-clause-on : goal.returns-in-Some-clause-on
returns-in-Some-clause-on g c =
    let l = c.lines in
    let e = c.in_ok-next_line.ensures in
    let t = taken (reading l.lines)
    (reading c.next_line.new.lines) _ _ _ c.last_line.result.now c.if-branch.true e.line e.numbered e.goes.limit c.last_line.ensures.value in
    let two = long_line c.last_line.result.now (given_seen c.in-Some.given c.read_event_line.new.out.items) (rw c.in-Some.is at c.in_ok-given.ensures.phrase) in
    let sized = e.sized c.if-branch.true in
    (counted_on _ _ _ _ _ l.invariant.counted t, omega (arith, two, sized, c.last_line.ensures.short, l.invariant.on))

pub returns-in-Some-clause-goes : goal.returns-in-Some-clause-goes
returns-in-Some-clause-goes g c =
    goes_behind c.lines.invariant.took c.lines.invariant.limit c.lines.invariant.longest c.in_ok-next_line.ensures.goes (λ _. refl)

pub returns-clause-goes : goal.returns-clause-goes
returns-clause-goes g c =
    goes_behind c.lines.invariant.took c.lines.invariant.limit c.lines.invariant.longest c.in_ok-next_line.ensures.goes (λ _. refl)

pub returns-in_err-given-clause-goes : goal.returns-in_err-given-clause-goes
returns-in_err-given-clause-goes g c =
    goes_behind c.lines.invariant.took c.lines.invariant.limit c.lines.invariant.longest c.in_ok-next_line.ensures.goes (λ _. refl)

pub returns-in_err-next_line-clause-goes : goal.returns-in_err-next_line-clause-goes
returns-in_err-next_line-clause-goes g c =
    let p = err_from_is_err_and c.from_residual.result c.from_residual.ensures.1 in
    let l = c.lines.invariant in
    rw (p.1, p.2) (goes_behind l.took l.limit l.longest c.in_err-next_line.ensures.goes (λ k. k))
