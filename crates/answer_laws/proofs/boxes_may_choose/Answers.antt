use Rattle.answer_laws.proofs.Worked.{two_lists, two_runs}
use Rattle.answer_laws.proofs.boxes_may_choose.Goals as goal

pub returns-clause-replay : goal.returns-clause-replay
returns-clause-replay c = two_lists

pub returns-clause-run : goal.returns-clause-run
returns-clause-run c = two_runs
