use Rattle.std.proofs.Common.{◌∙◌, sym, ap}
use Rattle.std.specs.Option.{option_map}
use Rattle.homa_plain.specs.Entries.{plain}
use Rattle.homa_check.specs.Clauses.{clause_of}
use Rattle.homa_check.proofs.StepLaws.{judged_some}
use Rattle.homa_check.proofs.step.step_entry.Goals as goal

pub returns-in-Some-clause-judged : goal.returns-in-Some-clause-judged
returns-in-Some-clause-judged c v f small =
    sym (judged_some v (plain c.args.line.now) (clause_of c.in-Some.clause)
    (sym (c.in_ok-clause.ensures v (c.look_up.ensures.kept v f)) ∙ ap (option_map clause_of) c.in-Some.is))
