use Rattle.check_node_laws.proofs.Checked.{texts_are_traces}
use Rattle.check_node_laws.proofs.node_texts_are_traces.Goals as goal

pub returns : goal.returns
returns c = texts_are_traces
