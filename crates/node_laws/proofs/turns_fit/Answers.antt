use Rattle.node_laws.proofs.Turns.{turns_fit}
use Rattle.node_laws.proofs.turns_fit.Goals as goal

pub returns : goal.returns
returns c = turns_fit
