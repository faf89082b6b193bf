use Rattle.node_trace_laws.proofs.NodeLaw.{usual_is_honest}
use Rattle.node_trace_laws.proofs.usual_nets_are_honest.Goals as goal

pub returns : goal.returns
returns c = usual_is_honest
