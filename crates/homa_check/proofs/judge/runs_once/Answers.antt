use Rattle.std.proofs.Common.{◌∙◌, sym, ap}
use Rattle.trace_rules.specs.Judge as tests
use Rattle.homa_plain.specs.Entries.{plain}
use Rattle.check_lines.proofs.RunLaws.{once_is, and_then, and_else}
use Rattle.homa_check.proofs.judge.runs_once.Goals as goal

pub returns-then-may_run : goal.returns-then-may_run
returns-then-may_run c v f =
    and_then c.may_run.result c.is_called_with.result _ _ c.may_run.ensures c.if-may_run.true c.is_called_with.ensures
    ∙ (once_is v c.args.trace.now c.in-Run.id c.in-Some.call.now c.in-Run.host c.in-Run.service c.in-Run.request.now f.kept c.in-Some.ensures.some
    ∙ sym (ap (λ e. tests.runs_once v (plain e)) c.in-Run.is))

pub returns-else-may_run : goal.returns-else-may_run
returns-else-may_run c v f =
    and_else c.may_run.result _ _ c.may_run.ensures c.if-may_run.false
    ∙ (once_is v c.args.trace.now c.in-Run.id c.in-Some.call.now c.in-Run.host c.in-Run.service c.in-Run.request.now f.kept c.in-Some.ensures.some
    ∙ sym (ap (λ e. tests.runs_once v (plain e)) c.in-Run.is))
