use Rattle.std.proofs.Common.{◌≡◌, ◌+◌, ◌∙◌, arith, refl, sym, ap, subst, ℕ}
use Rattle.std.proofs.lemmas.Result.{err_from_is_err_and}
use Rattle.homa_io.specs.Outside.{HasRisen}
use Rattle.trace_rules.specs.View.{nothing_seen}
use Rattle.text_lines.specs.Lines.{reading}
use Rattle.check_verdict.specs.Verdict as plain
use Rattle.homa_check.specs.Clauses.{clause_of}
use Rattle.homa_check.specs.Checks.{plain_verdict}
use Rattle.homa_check.proofs.LoopLaws.{start_due, start_so_far, cut_short, read_further, taken_start, taken_more, up_to, end_no}
use Rattle.homa_check.proofs.text.judge_all.Goals as goal

pub lines-init : goal.lines-init
lines-init g c =
    let e = c.requires.lines in
    let number : (reading c.args.lines.now).number ≡ 0 = ap (λ x. x.number) e in
    let read : (reading c.args.lines.now).read ≡ 0 = ap (λ x. x.read) e in
    record {
      due = (
        nothing_seen,
        c.requires.follows,
        sym number,
        λ bytes k. (bytes, k, start_due (reading c.args.lines.now) bytes e),
        λ bytes k. start_so_far (reading c.args.lines.now) bytes _ e k,
      );
      taken = taken_start _ (reading c.args.lines.now) e;
      counted = omega (arith, number, read);
      within = omega (arith, read);
      limit = ap (λ x. x.limit) e;
      longest = ap (λ x. x.longest) e;
      room = c.requires.room;
      quiet = refl;
      never_falls = omega arith;
      same = g.met.S.Source.same_self _;
    }

pub lines-preserved : goal.lines-preserved
lines-preserved g c =
    let i = c.lines.invariant in
    let e = c.in_ok-judge_next.ensures in
    let t = rw c.in-Taken.is at (e.next i.due.0 i.due.1 (omega (arith, i.due.2, i.counted, i.within))) in
    let read = e.read c.in-Taken.is in
    record {
      due = (
        t.w,
        t.follows,
        omega (arith, t.place, i.due.2, e.number, i.counted, i.within),
        λ bytes k. (let a = i.due.3 bytes k in let b = t.due a.0 a.1 in (b.0, b.1, a.2 ∙ b.2)),
        λ bytes k. t.so_far bytes (i.due.4 bytes k),
      );
      taken = taken_more _ _ _ _ _ _ (λ h. h c.in-Taken.is) i.taken e.took;
      counted = omega (arith, read.0, e.number, i.counted);
      within = read.1;
      limit = e.limit ∙ i.limit;
      longest = e.longest ∙ i.longest;
      room = omega (arith, e.room, i.room);
      quiet = e.source.quiet refl ∙ i.quiet;
      never_falls = omega (arith, e.source.never_falls, i.never_falls);
      same = g.met.S.Source.same_on _ _ _ i.same e.source.same;
    }

pub lines-smaller : goal.lines-smaller
lines-smaller g c = let read = c.in_ok-judge_next.ensures.read c.in-Taken.is in omega (arith, read.0, read.1)

pub returns-in-End : goal.returns-in-End
returns-in-End g c =
    let i = c.lines.invariant in
    let e = c.in_ok-judge_next.ensures in
    let end = rw c.in-End.is at (e.next i.due.0 i.due.1 (omega (arith, i.due.2, i.counted, i.within))) in
    record {
      verdict = λ bytes k. let a = i.due.3 bytes k in a.2 ∙ (end.0 a.0 a.1 ∙ c.at_end.ensures i.due.0 end.2);
      end = λ y. end.1;
      behind = λ line clause no.
          let last = end_no i.due.0 line (clause_of clause) (c.at_end.ensures i.due.0 end.2 ∙ ap plain_verdict no) in
          up_to line _ _ _ _ _ _ e.limit (omega (arith, last, e.number, i.due.2, i.counted, i.within)) i.taken e.took;
      cut = λ r. absurd cc;
      source = record {
        read_on = read_further _ _ _ (i.taken.came, i.taken.source) e.source.read_on;
        risen = λ r. absurd cc;
        quiet = λ r. e.source.quiet refl ∙ i.quiet;
        never_falls = omega (arith, e.source.never_falls, i.never_falls);
        same = g.met.S.Source.same_on _ _ _ i.same e.source.same;
      };
    }

pub returns-in-Fails : goal.returns-in-Fails
returns-in-Fails g c =
    let i = c.lines.invariant in
    let e = c.in_ok-judge_next.ensures in
    let fails = rw c.in-Fails.is at (e.next i.due.0 i.due.1 (omega (arith, i.due.2, i.counted, i.within))) in
    let number : i.due.0.place + 1 ≡ c.number.result = omega (arith, c.number.ensures, e.number, i.due.2, i.counted, i.within) in
    record {
      verdict = λ bytes k. let a = i.due.3 bytes k in a.2 ∙ (fails a.0 a.1 ∙ ap (λ (n : ℕ). plain.No n (clause_of c.in-Fails.clause)) number);
      end = λ y. absurd cc;
      behind = λ line clause no.
          let same : c.number.result ≡ line = cc in
          up_to line _ _ _ _ _ _ e.limit (sym c.number.ensures ∙ same) i.taken e.took;
      cut = λ r. absurd cc;
      source = record {
        read_on = read_further _ _ _ (i.taken.came, i.taken.source) e.source.read_on;
        risen = λ r. absurd cc;
        quiet = λ r. e.source.quiet refl ∙ i.quiet;
        never_falls = omega (arith, e.source.never_falls, i.never_falls);
        same = g.met.S.Source.same_on _ _ _ i.same e.source.same;
      };
    }

pub judge_next-requires : goal.judge_next-requires
judge_next-requires g c = let i = c.lines.invariant in record { longest = i.longest; limit = i.limit; within = i.within; room = i.room }

pub returns-in_err-judge_next : goal.returns-in_err-judge_next
returns-in_err-judge_next g c =
    let i = c.lines.invariant in
    let k = c.in_err-judge_next.ensures in
    let p = err_from_is_err_and c.from_residual.result c.from_residual.ensures.1 in
    rw (p.1, p.2)
    (record {
      verdict = tt;
      end = tt;
      behind = tt;
      cut = λ r bytes h. cut_short bytes _ _ (reading c.lines.lines) i.due.0 (i.due.4 bytes h) (k.unended r);
      source = record {
        read_on = read_further _ _ _ (i.taken.came, i.taken.source) k.source.read_on;
        risen = λ r. subst (λ (n : ℕ). HasRisen n (g.S.Source.faults c.judge_next.new.source)) i.quiet (k.source.risen r);
        quiet = λ r. k.source.quiet r ∙ i.quiet;
        never_falls = omega (arith, k.source.never_falls, i.never_falls);
        same = g.met.S.Source.same_on _ _ _ i.same k.source.same;
      };
    })
