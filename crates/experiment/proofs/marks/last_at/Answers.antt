-- The last call is the one at the end.
use Rattle.std.proofs.Common.{rules}
use Rattle.experiment.proofs.MarkLaws.{last_get}
use Rattle.experiment.proofs.marks.last_at.Goals as goal

pub returns-else-is_empty : goal.returns-else-is_empty
returns-else-is_empty c = last_get c.args.calls.now _ (search rules)
