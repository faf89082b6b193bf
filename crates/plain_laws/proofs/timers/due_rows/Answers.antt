use Rattle.homa_plain.proofs.ChoiceLaws.{few-due, deadline-due, left-due}
use Rattle.plain_laws.proofs.timers.due_rows.Goals as goal

pub returns-clause-few : goal.returns-clause-few
returns-clause-few g c = few-due

pub returns-clause-come : goal.returns-clause-come
returns-clause-come g c = deadline-due

pub returns-clause-left_out : goal.returns-clause-left_out
returns-clause-left_out g c = left-due
