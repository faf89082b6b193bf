use Rattle.std.proofs.Common.{◌∙◌}
use Rattle.check_lines.proofs.RunLaws.{answers_is, no_answers}
use Rattle.homa_check.proofs.judge.has_answer.Goals as goal

pub returns-in-Some : goal.returns-in-Some
returns-in-Some c v f =
    c.is_any_answer.ensures ∙ answers_is v c.args.trace.now c.args.id c.in-Some.call.now c.args.inc c.args.bytes.now f.kept c.in-Some.ensures.some

pub returns-in-None : goal.returns-in-None
returns-in-None c v f = no_answers v c.args.trace.now c.args.id c.args.inc c.args.bytes.now f.kept c.in-None.ensures.none
