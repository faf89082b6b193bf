use Rattle.node_laws.proofs.Loops.{events_fit}
use Rattle.node_laws.proofs.events_fit.Goals as goal

pub returns : goal.returns
returns c = events_fit
