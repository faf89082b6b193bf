use Rattle.std.proofs.Common.{arith, refl, sym, subst, ◌∙◌}
use Rattle.std.proofs.lemmas.Result.{err_from_is_err_and}
use Rattle.text_lines.specs.Lines.{reading}
use Rattle.script_lines.proofs.Taken.{taken, counted_on, end_number}
use Rattle.node_runs.specs.Script.{setup_of}
use Rattle.node_script.specs.Setup.{heading_seen}
use Rattle.node_script.specs.Heads.{first_head, head_after, IsSetup}
use Rattle.node_script.proofs.Openings.{open_start, go_after, open_says, open_go, open_fault, open_cut, open_end, open_stop}
use Rattle.node_script.proofs.read.read_setup.Goals as goal

pub lines-init : goal.lines-init
lines-init g c = record {
  said = record { head = first_head; is = c.in_ok-head.ensures.head; due = open_start (reading c.args.lines.now) _ c.requires.first };
  good = c.in_ok-head.ensures.good;
  counted = c.requires.script.counted;
  limit = refl;
  longest = refl;
  quiet = refl;
  never_falls = omega arith;
  same = g.met.S.Source.same_self _;
}

pub lines-preserved : goal.lines-preserved
lines-preserved g c =
    let l = c.lines in
    let e = c.in_ok-next_line.ensures in
    let t = taken (reading l.lines)
    (reading c.next_line.new.lines) _ _ _ c.last_line.result.now c.if-branch.true e.line e.numbered e.goes.limit c.last_line.ensures.value in
    let said = l.invariant.said in
    let h = heading_seen c.in_ok-heading.heading in
    record {
      said = record {
        head = head_after said.head h;
        is = c.in_ok-says.ensures.head said.head said.is;
        due = open_says (reading c.args.lines.now).limit _ _ said.head _ _ _ _ said.due t h c.in_ok-heading.ensures.given (sym c.in_ok-says.ensures.go
            ∙ c.if-branch-2.false);
      };
      good = c.in_ok-says.ensures.good;
      counted = counted_on _ _ _ _ _ l.invariant.counted t;
      limit = e.goes.limit ∙ l.invariant.limit;
      longest = e.goes.longest ∙ l.invariant.longest;
      quiet = e.faults.quiet refl ∙ l.invariant.quiet;
      never_falls = omega (arith, e.faults.never_falls, l.invariant.never_falls);
      same = g.met.S.Source.same_on _ _ _ l.invariant.same e.faults.same;
    }

pub returns-in_err-next_line-clause-setup : goal.returns-in_err-next_line-clause-setup
returns-in_err-next_line-clause-setup g c =
    let l = c.lines in
    let e = c.in_err-next_line.ensures in
    let r = c.from_residual-in_err-next_line in
    let p = err_from_is_err_and r.result r.ensures.1 in
    rw (p.1, p.2) (open_stop (reading c.args.lines.now).limit (reading l.lines)
    (reading c.next_line.new.lines) l.invariant.said.head _ _ _ c.in_err-next_line.field-0.0 l.invariant.said.due e.line e.numbered)

pub returns-in_err-heading-clause-setup : goal.returns-in_err-heading-clause-setup
returns-in_err-heading-clause-setup g c =
    let l = c.lines in
    let e = c.in_ok-next_line.ensures in
    let t = taken (reading l.lines)
    (reading c.next_line.new.lines) _ _ _ c.last_line.result.now c.if-branch.true e.line e.numbered e.goes.limit c.last_line.ensures.value in
    let r = c.from_residual-in_err-heading in
    let p = err_from_is_err_and r.result r.ensures.1 in
    rw (p.1, p.2) (open_fault (reading c.args.lines.now).limit _ _ l.invariant.said.head _ _ _ _ l.invariant.said.due t c.in_err-heading.field-0.0
    c.in_err-heading.ensures.given)

pub returns-in_err-says-clause-setup : goal.returns-in_err-says-clause-setup
returns-in_err-says-clause-setup g c =
    let l = c.lines in
    let e = c.in_ok-next_line.ensures in
    let t = taken (reading l.lines)
    (reading c.next_line.new.lines) _ _ _ c.last_line.result.now c.if-branch.true e.line e.numbered e.goes.limit c.last_line.ensures.value in
    let r = c.from_residual-in_err-says in
    let p = err_from_is_err_and r.result r.ensures.1 in
    rw (p.1, p.2) (open_cut (reading c.args.lines.now).limit _ _ l.invariant.said.head _ _ _ _ l.invariant.said.due t)

pub returns-then-branch-2-clause-setup : goal.returns-then-branch-2-clause-setup
returns-then-branch-2-clause-setup g c =
    let l = c.lines in
    let e = c.in_ok-next_line.ensures in
    let t = taken (reading l.lines)
    (reading c.next_line.new.lines) _ _ _ c.last_line.result.now c.if-branch.true e.line e.numbered e.goes.limit c.last_line.ensures.value in
    let go = sym c.in_ok-says.ensures.go ∙ c.if-branch-2.true in
    let h = heading_seen c.in_ok-heading.heading in
    let said = l.invariant.said in
    open_go (reading c.args.lines.now).limit _ _ l.invariant.said.head _ _ _ _ l.invariant.said.due t h c.setup.result c.in_ok-heading.ensures.given go
    (subst (λ hd. IsSetup (setup_of hd) c.setup.result) (go_after said.head h go)
    (c.setup.ensures.setup (head_after said.head h) (c.in_ok-says.ensures.head said.head said.is)))

pub returns-clause-setup : goal.returns-clause-setup
returns-clause-setup g c =
    let l = c.lines in
    let e = c.in_ok-next_line.ensures in
    open_end (reading c.args.lines.now).limit (reading l.lines)
    (reading c.next_line.new.lines) l.invariant.said.head _ _ _ _ l.invariant.said.due c.if-branch.false e.line
    (end_number (reading l.lines) (reading c.next_line.new.lines) _ c.if-branch.false e.numbered)
