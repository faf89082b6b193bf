use Rattle.std.proofs.Common.{◌∙◌, sym, ap}
use Rattle.trace_rules.specs.Judge.{are_same_calls}
use Rattle.homa_check.proofs.judge.has_failed.Goals as goal

pub returns : goal.returns
returns c v f =
    c.is_exactly.ensures v.here.forgotten f.block.here.forgotten
    ∙ ap (are_same_calls v.here.forgotten) (c.of-due.ensures.forgotten ∙ sym (ap (λ e. e.forgotten) f.block.due))
