use Rattle.trace_rules.proofs.LawsJudged.{none_found, some_found, each_law}
use Rattle.trace_rules.proofs.judging.judges.Goals as goal

pub returns-clause-none : goal.returns-clause-none
returns-clause-none c = none_found

pub returns-clause-some : goal.returns-clause-some
returns-clause-some c = some_found

pub returns-clause-each : goal.returns-clause-each
returns-clause-each c = each_law
