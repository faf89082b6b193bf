use Rattle.std.proofs.Common.{◌∙◌, arith, sym, ap, subst, List, ℕ}
use Rattle.std.specs.Option.{option_map}
use Rattle.text_lines.specs.Lines.{reading}
use Rattle.check_reader.specs.Forms.{entry_of}
use Rattle.check_verdict.specs.Verdict.{judged_text, seen_text}
use Rattle.homa_check.specs.Clauses.{clause_of}
use Rattle.check_lines.specs.Traces.{Follows}
use Rattle.homa_check.proofs.LoopLaws.{none_ends, long_fails, over_fails, line_fails, line_taken, read_more, took_line, took_over, took_none}
use Rattle.homa_check.proofs.text.judge_next.Goals as goal

pub returns-in-End-clause-next : goal.returns-in-End-clause-next
returns-in-End-clause-next g c v f p =
    let got = rw c.in-End.is at c.in_ok-next.ensures.next in
    (none_ends v (reading c.args.lines.now) (reading c.next.new.self) _ _ got, got.2.at_end, f)

pub returns-in-Long-clause-next : goal.returns-in-Long-clause-next
returns-in-Long-clause-next g c v f p =
    let got = rw c.in-Long.is at c.in_ok-next.ensures.next in
    long_fails v (reading c.args.lines.now) (reading c.next.new.self) _ _ got c.requires.longest

pub returns-in-Over-clause-next : goal.returns-in-Over-clause-next
returns-in-Over-clause-next g c v f p =
    let got = rw c.in-Over.is at c.in_ok-next.ensures.next in
    over_fails v (reading c.args.lines.now) (reading c.next.new.self) _ _ got c.requires.limit (omega (arith, c.requires.within, c.requires.limit))

pub returns-in-Some-clause-next : goal.returns-in-Some-clause-next
returns-in-Some-clause-next g c v f p =
    let got = rw c.in-Line.is at c.in_ok-next.ensures.next in
    line_fails v (reading c.args.lines.now) (reading c.next.new.self) _ _ c.in-Some.clause got c.requires.longest c.requires.limit
    (sym (ap (option_map clause_of) c.in-Some.is)
    ∙ (c.in_ok-clause-in-Line.ensures.judged v f (omega (arith, p)) ∙ ap (λ b. judged_text v (entry_of b)) c.bytes.ensures))

pub returns-in-None-clause-next : goal.returns-in-None-clause-next
returns-in-None-clause-next g c v f p =
    let got = rw c.in-Line.is at c.in_ok-next.ensures.next in
    line_taken v (reading c.args.lines.now) (reading c.next.new.self) _ _ c.step.new.trace got c.requires.longest c.requires.limit
    (sym (ap (option_map clause_of) c.in-None.is)
    ∙ (c.in_ok-clause-in-Line.ensures.judged v f (omega (arith, p)) ∙ ap (λ b. judged_text v (entry_of b)) c.bytes.ensures))
    (subst (λ (b : List ℕ). Follows (seen_text v (entry_of b)) c.step.new.trace) c.bytes.ensures
    (c.in_ok-clause-in-Line.ensures.next v f (omega (arith, p)) c.in-None.is))

pub returns-in-None-clause-read : goal.returns-in-None-clause-read
returns-in-None-clause-read g c e =
    let got = rw c.in-Line.is at c.in_ok-next.ensures.next in
    read_more (reading c.args.lines.now) (reading c.next.new.self) got.0 got.2.0 _ got.2.1.taken c.requires.limit

pub returns-in-End-clause-took : goal.returns-in-End-clause-took
returns-in-End-clause-took g c =
    let got = rw c.in-End.is at c.in_ok-next.ensures.next in
    took_none (reading c.args.lines.now) (reading c.next.new.self) got.0 _ _ _ _ got.1 got.2

pub returns-in-Long-clause-took : goal.returns-in-Long-clause-took
returns-in-Long-clause-took g c =
    let got = rw c.in-Long.is at c.in_ok-next.ensures.next in
    took_line (reading c.args.lines.now) (reading c.next.new.self) got.0 got.2.0 _ _ _ _ got.1 got.2.1.taken

pub returns-in-Over-clause-took : goal.returns-in-Over-clause-took
returns-in-Over-clause-took g c =
    let got = rw c.in-Over.is at c.in_ok-next.ensures.next in
    took_over (reading c.args.lines.now) (reading c.next.new.self) got.0 got.2.0 _ _ _ got.1 got.2.1 (λ e. absurd cc)

pub returns-in-Some-clause-took : goal.returns-in-Some-clause-took
returns-in-Some-clause-took g c =
    let got = rw c.in-Line.is at c.in_ok-next.ensures.next in
    took_line (reading c.args.lines.now) (reading c.next.new.self) got.0 got.2.0 _ _ _ _ got.1 got.2.1.taken

pub returns-in-None-clause-took : goal.returns-in-None-clause-took
returns-in-None-clause-took g c =
    let got = rw c.in-Line.is at c.in_ok-next.ensures.next in
    took_line (reading c.args.lines.now) (reading c.next.new.self) got.0 got.2.0 _ _ _ _ got.1 got.2.1.taken
