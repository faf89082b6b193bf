use Rattle.std.proofs.Common.{◌∙◌, arith, refl, sym, ap, []}
use Rattle.std.proofs.lemmas.Result.{IfOk-weaker, err_from_is_err_and}
use Rattle.text_lines.proofs.Taking.{unread-nil}
use Rattle.check_verdict.proofs.TextLaws.{yes_is, no_is}
use Rattle.homa_check.specs.Checks.{plain_verdict}
use Rattle.homa_check.specs.Clauses.{clause_of}
use Rattle.homa_check.proofs.text.check.Goals as goal

pub returns : goal.returns
returns g c =
    let h = c.judge_all.ensures in
    record {
      verdict = h.verdict;
      yes = IfOk-weaker c.judge_all.result _ _ (λ verdict v bytes n k e. (yes_is bytes n).0 (v bytes k ∙ ap plain_verdict e)) h.verdict;
      end = h.end;
      no =
          IfOk-weaker c.judge_all.result _ _ (λ verdict v bytes line clause k e. no_is bytes line (clause_of clause) (v bytes k ∙ ap plain_verdict e))
          h.verdict;
      cut = h.cut;
      source = h.source;
    }

pub returns-in_err-lines : goal.returns-in_err-lines
returns-in_err-lines g c =
    let p = err_from_is_err_and c.from_residual.result c.from_residual.ensures.1 in
    rw (p.1, p.2) (record {
      verdict = tt;
      yes = tt;
      end = tt;
      no = tt;
      cut = λ r. absurd cc;
      source = record {
        read_on = ([], sym (unread-nil _));
        risen = λ r. absurd cc;
        quiet = λ r. refl;
        never_falls = omega arith;
        same = g.met.S.Source.same_self _;
      };
    })

pub returns-in_err-room : goal.returns-in_err-room
returns-in_err-room g c =
    let p = err_from_is_err_and c.from_residual-in_err-room.result c.from_residual-in_err-room.ensures.1 in
    rw (p.1, p.2) (record {
      verdict = tt;
      yes = tt;
      end = tt;
      no = tt;
      cut = λ r. absurd cc;
      source = record {
        read_on = ([], sym (unread-nil _));
        risen = λ r. absurd cc;
        quiet = λ r. refl;
        never_falls = omega arith;
        same = g.met.S.Source.same_self _;
      };
    })

pub judge_all-requires-clause-follows : goal.judge_all-requires-clause-follows
judge_all-requires-clause-follows g c = c.new-trace.ensures

pub judge_all-requires-clause-lines : goal.judge_all-requires-clause-lines
judge_all-requires-clause-lines g c = c.in_ok-lines.ensures

pub judge_all-requires-clause-room : goal.judge_all-requires-clause-room
judge_all-requires-clause-room g c = omega (arith, c.deref_mut.ensures.len, c.in_ok-room.ensures.len)
