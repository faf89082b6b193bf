use Rattle.std.proofs.Common.{rules}
use Rattle.host_state.proofs.At.{at-counted, at-balanced}
use Rattle.host_state.proofs.control.Control.note.Goals as goal

pub returns-then-is_balance_due-clause-step : goal.returns-then-is_balance_due-clause-step
returns-then-is_balance_due-clause-step c w frames at = at-balanced w c.args.self.now _ frames c.args.len (search rules) (search rules) at

pub returns-else-is_balance_due-clause-step : goal.returns-else-is_balance_due-clause-step
returns-else-is_balance_due-clause-step c w frames at = at-counted w c.args.self.now _ frames c.args.len (search rules) (search rules) at
