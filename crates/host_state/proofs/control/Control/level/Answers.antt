use Rattle.std.proofs.Common.{rules}
use Rattle.host_state.proofs.Settle.{level-most}
use Rattle.host_state.proofs.control.Control.level.Goals as goal

pub returns-then-piece-self-clause-most : goal.returns-then-piece-self-clause-most
returns-then-piece-self-clause-most c = rw c.level.ensures (level-most _ _ _ (search rules))
