use Rattle.std.proofs.Common.{sym}
use Rattle.plain_sets.proofs.CountLaws.{len-set_of_range}
use Rattle.check_call.proofs.part.count_with.Goals as goal

pub returns-else-keeps : goal.returns-else-keeps
returns-else-keeps c = rw c.if-keeps.false (sym (len-set_of_range c.args.a c.args.b))
