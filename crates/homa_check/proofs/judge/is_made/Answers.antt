use Rattle.std.proofs.Common.{◌∙◌, sym, ap}
use Rattle.trace_rules.specs.Judge as tests
use Rattle.check_lines.proofs.Readings.{made_is}
use Rattle.homa_check.proofs.judge.is_made.Goals as goal

pub returns-in-Some : goal.returns-in-Some
returns-in-Some c v f = c.is_some.ensures ∙ (c.find.ensures.found ∙ (made_is v c.args.trace.now c.in-Some.id f ∙ sym (ap (tests.is_made v) c.in-Some.is)))
