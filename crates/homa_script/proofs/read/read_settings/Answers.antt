use Rattle.std.proofs.Common.{arith, refl, ◌∙◌}
use Rattle.std.proofs.lemmas.Result.{err_from_is_err_and}
use Rattle.text_lines.specs.Lines.{reading}
use Rattle.script_lines.proofs.Takings.{lines_none, lines_on, goes_behind}
use Rattle.script_lines.proofs.Taken.{taken, counted_on, end_number}
use Rattle.homa_script.proofs.Openings.{open_start, open_blank, open_setting, open_go, open_not, open_fault, open_end, open_stop}
use Rattle.homa_script.proofs.read.read_settings.Goals as goal

pub lines-init : goal.lines-init
lines-init g c = record {
  due = open_start (reading c.args.lines.now) c.usual-settings.result _ c.requires.first c.usual-settings.ensures.usual;
  took = lines_none _ _;
  counted = c.requires.script.counted;
  limit = refl;
  longest = refl;
  quiet = refl;
  never_falls = omega arith;
  same = g.met.S.Source.same_self _;
}

pub lines-preserved-in-Blank : goal.lines-preserved-in-Blank
lines-preserved-in-Blank g c =
    let l = c.lines in
    let e = c.in_ok-next_line.ensures in
    let t = taken (reading l.lines)
    (reading c.next_line.new.lines) _ _ _ c.last_line.result.now c.if-branch.true e.line e.numbered e.goes.limit c.last_line.ensures.value in
    record {
      due = open_blank _ _ _ l.settings _ _ _ _ l.invariant.due t (rw c.in-Blank.is at c.in_ok-read_opening_line.ensures);
      took = lines_on _ _ _ _ _ _ l.invariant.took (e.goes.took refl);
      counted = counted_on _ _ _ _ _ l.invariant.counted t;
      limit = e.goes.limit ∙ l.invariant.limit;
      longest = e.goes.longest ∙ l.invariant.longest;
      quiet = e.faults.quiet refl ∙ l.invariant.quiet;
      never_falls = omega (arith, e.faults.never_falls, l.invariant.never_falls);
      same = g.met.S.Source.same_on _ _ _ l.invariant.same e.faults.same;
    }

pub lines-preserved : goal.lines-preserved
lines-preserved g c =
    let l = c.lines in
    let e = c.in_ok-next_line.ensures in
    let t = taken (reading l.lines)
    (reading c.next_line.new.lines) _ _ _ c.last_line.result.now c.if-branch.true e.line e.numbered e.goes.limit c.last_line.ensures.value in
    record {
      due = open_setting _ _ _ l.settings _ _ _ _ l.invariant.due t c.set.new.self c.in-Setting.name c.in-Setting.n
          (rw c.in-Setting.is at c.in_ok-read_opening_line.ensures) c.set.ensures;
      took = lines_on _ _ _ _ _ _ l.invariant.took (e.goes.took refl);
      counted = counted_on _ _ _ _ _ l.invariant.counted t;
      limit = e.goes.limit ∙ l.invariant.limit;
      longest = e.goes.longest ∙ l.invariant.longest;
      quiet = e.faults.quiet refl ∙ l.invariant.quiet;
      never_falls = omega (arith, e.faults.never_falls, l.invariant.never_falls);
      same = g.met.S.Source.same_on _ _ _ l.invariant.same e.faults.same;
    }

pub returns-in_err-next_line-clause-settings : goal.returns-in_err-next_line-clause-settings
returns-in_err-next_line-clause-settings g c =
    let l = c.lines in
    let e = c.in_err-next_line.ensures in
    let p = err_from_is_err_and c.from_residual.result c.from_residual.ensures.1 in
    rw (p.1, p.2) (open_stop (reading c.args.lines.now).limit (reading l.lines)
    (reading c.next_line.new.lines) l.settings _ _ _ c.in_err-next_line.field-0.0 l.invariant.due e.line e.numbered)

pub returns-in_err-read_opening_line-clause-settings : goal.returns-in_err-read_opening_line-clause-settings
returns-in_err-read_opening_line-clause-settings g c =
    let l = c.lines in
    let e = c.in_ok-next_line.ensures in
    let t = taken (reading l.lines)
    (reading c.next_line.new.lines) _ _ _ c.last_line.result.now c.if-branch.true e.line e.numbered e.goes.limit c.last_line.ensures.value in
    let r = c.from_residual-in_err-read_opening_line in
    let p = err_from_is_err_and r.result r.ensures.1 in
    rw (p.1, p.2) (open_fault (reading c.args.lines.now).limit _ _ l.settings _ _ _ _ l.invariant.due t c.in_err-read_opening_line.field-0.0
    c.in_err-read_opening_line.ensures)

pub returns-in_err-check-in-Go-clause-settings : goal.returns-in_err-check-in-Go-clause-settings
returns-in_err-check-in-Go-clause-settings g c =
    let l = c.lines in
    let e = c.in_ok-next_line.ensures in
    let t = taken (reading l.lines)
    (reading c.next_line.new.lines) _ _ _ c.last_line.result.now c.if-branch.true e.line e.numbered e.goes.limit c.last_line.ensures.value in
    let r = c.from_residual-in_err-check-in-Go in
    let p = err_from_is_err_and r.result r.ensures.1 in
    rw (p.1, p.2) (open_not (reading c.args.lines.now).limit _ _ l.settings _ _ _ _ l.invariant.due t c.in_err-check-in-Go.field-0.0
    (rw c.in-Go.is at c.in_ok-read_opening_line.ensures) c.in_err-check-in-Go.ensures.fault)

pub returns-in-Go-clause-settings : goal.returns-in-Go-clause-settings
returns-in-Go-clause-settings g c =
    let l = c.lines in
    let e = c.in_ok-next_line.ensures in
    let t = taken (reading l.lines)
    (reading c.next_line.new.lines) _ _ _ c.last_line.result.now c.if-branch.true e.line e.numbered e.goes.limit c.last_line.ensures.value in
    open_go (reading c.args.lines.now).limit _ _ l.settings _ _ _ _ l.invariant.due t c.in_ok-check-in-Go.field-0
    (rw c.in-Go.is at c.in_ok-read_opening_line.ensures) c.in_ok-check-in-Go.ensures.fault

pub returns-clause-settings : goal.returns-clause-settings
returns-clause-settings g c =
    let l = c.lines in
    let e = c.in_ok-next_line.ensures in
    open_end (reading c.args.lines.now).limit (reading l.lines) (reading c.next_line.new.lines) l.settings _ _ _ _ l.invariant.due c.if-branch.false e.line
    (end_number (reading l.lines) (reading c.next_line.new.lines) _ c.if-branch.false e.numbered)

pub returns-in-Go-clause-goes : goal.returns-in-Go-clause-goes
returns-in-Go-clause-goes g c =
    goes_behind c.lines.invariant.took c.lines.invariant.limit c.lines.invariant.longest c.in_ok-next_line.ensures.goes (λ _. refl)

pub returns-clause-goes : goal.returns-clause-goes
returns-clause-goes g c =
    goes_behind c.lines.invariant.took c.lines.invariant.limit c.lines.invariant.longest c.in_ok-next_line.ensures.goes (λ _. refl)

pub returns-in_err-read_opening_line-clause-goes : goal.returns-in_err-read_opening_line-clause-goes
returns-in_err-read_opening_line-clause-goes g c =
    goes_behind c.lines.invariant.took c.lines.invariant.limit c.lines.invariant.longest c.in_ok-next_line.ensures.goes (λ _. refl)

pub returns-in_err-check-in-Go-clause-goes : goal.returns-in_err-check-in-Go-clause-goes
returns-in_err-check-in-Go-clause-goes g c =
    goes_behind c.lines.invariant.took c.lines.invariant.limit c.lines.invariant.longest c.in_ok-next_line.ensures.goes (λ _. refl)

pub returns-in_err-next_line-clause-goes : goal.returns-in_err-next_line-clause-goes
returns-in_err-next_line-clause-goes g c =
    let p = err_from_is_err_and c.from_residual.result c.from_residual.ensures.1 in
    let l = c.lines.invariant in
    rw (p.1, p.2) (goes_behind l.took l.limit l.longest c.in_err-next_line.ensures.goes (λ k. k))
