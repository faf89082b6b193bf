-- The lines, one after the other, and what is made of them.
use Rattle.std.proofs.Common.{◌≡◌, ◌∙◌, sym, ap, subst, true, false, rules, arith}
use Rattle.std.proofs.lemmas.Bool.{not-true, not-false}
use Rattle.std.proofs.lemmas.Result.{err_from_is_err_and}
use Rattle.text_lines.specs.Lines.{Reading, reading}
use Rattle.script_lines.proofs.Taken.{taken, counted_on, end_number}
use Rattle.experiment.specs.Drafts.{Drafting, drafting}
use Rattle.experiment.proofs.TextLaws.{IsOpen, open_start, open_says, open_end, open_stop, open_refused, open_made, open_nothing}
use Rattle.experiment.proofs.reading.read.Goals as goal

pub lines-init : goal.lines-init
lines-init g c =
    let e = c.in_ok-lines.ensures in
    let left = g.S.Source.left c.args.source.now in
    let limit = ap (λ (r : Reading). r.limit) e in
    let read = ap (λ (r : Reading). r.read) e in
    let number = ap (λ (r : Reading). r.number) e in
    record {
      due = subst (λ (d : Drafting). IsOpen (reading c.in_ok-lines.lines) false d left left) (sym c.in_ok-draft.ensures)
          (open_start (reading c.in_ok-lines.lines) left (ap (λ (r : Reading). r.pending) e) read number limit);
      counted = record { counted = omega (arith, number); within = omega (arith, read); countable = omega (arith, limit) };
      longest = ap (λ (r : Reading). r.longest) e;
      never_falls = omega arith;
      same = g.met.S.Source.same_self _;
    }

pub lines-preserved : goal.lines-preserved
lines-preserved g c =
    let l = c.lines in
    let e = c.in_ok-next.ensures in
    let t = taken (reading l.lines) (reading c.next.new.lines) _ _ _ c.last_line.result.now c.if-branch.true e.line e.numbered e.limit
    c.last_line.ensures.value in
    record {
      due = open_says (reading l.lines) (reading c.next.new.lines) l.says (drafting l.draft) _ _ _ _ l.invariant.due t
          (drafting c.take.new.draft, c.in_ok-any.any) (rw c.number-number.ensures at c.in_ok-any.ensures);
      counted = counted_on _ _ _ _ _ l.invariant.counted t;
      longest = e.longest ∙ l.invariant.longest;
      never_falls = omega (arith, e.never_falls, l.invariant.never_falls);
      same = g.met.S.Source.same_on _ _ _ l.invariant.same e.same;
    }

pub returns-in_err-next-clause-text : goal.returns-in_err-next-clause-text
returns-in_err-next-clause-text g c = λ bytes k.
    let l = c.lines in
    let e = c.in_err-next.ensures in
    let r = c.from_residual-in_err-next in
    let p = err_from_is_err_and r.result r.ensures.1 in
    rw (p.1, p.2) (open_stop (reading l.lines) (reading c.next.new.lines) l.says (drafting l.draft) _ _ _ c.in_err-next.field-0.0 l.invariant.due e.line
    e.numbered bytes k)

pub returns-in_err-any-clause-text : goal.returns-in_err-any-clause-text
returns-in_err-any-clause-text g c = λ bytes k.
    let l = c.lines in
    let e = c.in_ok-next.ensures in
    let t = taken (reading l.lines) (reading c.next.new.lines) _ _ _ c.last_line.result.now c.if-branch.true e.line e.numbered e.limit
    c.last_line.ensures.value in
    let r = c.from_residual-in_err-any in
    let p = err_from_is_err_and r.result r.ensures.1 in
    rw (p.1, p.2) (open_refused (reading l.lines) (reading c.next.new.lines) l.says (drafting l.draft) (drafting c.take.new.draft) _ _ _ _
    c.number-number.result c.in_err-any.field-0.0 l.invariant.due t c.number-number.ensures c.in_err-any.ensures bytes k)

pub returns-then-not-says-clause-text : goal.returns-then-not-says-clause-text
returns-then-not-says-clause-text g c = λ bytes k.
    let l = c.lines in
    let e = c.in_ok-next.ensures in
    let none : l.says ≡ false = search (rules, not-true) in
    rw c.number.ensures
    (open_nothing bytes (reading c.next.new.lines).number l.says (drafting l.draft)
    (open_end (reading l.lines) (reading c.next.new.lines) l.says (drafting l.draft) _ _ _ _ l.invariant.due c.if-branch.false e.line
    (end_number (reading l.lines) (reading c.next.new.lines) _ c.if-branch.false e.numbered) bytes k) none)

pub returns-clause-text : goal.returns-clause-text
returns-clause-text g c = λ bytes k.
    let l = c.lines in
    let e = c.in_ok-next.ensures in
    let some : l.says ≡ true = search (rules, not-false) in
    open_made bytes (reading c.next.new.lines).number l.says (drafting l.draft) c.experiment.result
    (open_end (reading l.lines) (reading c.next.new.lines) l.says (drafting l.draft) _ _ _ _ l.invariant.due c.if-branch.false e.line
    (end_number (reading l.lines) (reading c.next.new.lines) _ c.if-branch.false e.numbered) bytes k)
    some c.experiment.ensures.fault c.experiment.ensures.fit c.experiment.ensures.made
