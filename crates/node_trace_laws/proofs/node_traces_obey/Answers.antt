use Rattle.node_trace_laws.proofs.NodeLaw.{traces_obey, none_broken}
use Rattle.node_trace_laws.proofs.node_traces_obey.Goals as goal

pub returns-clause-obeys : goal.returns-clause-obeys
returns-clause-obeys c = traces_obey

pub returns-clause-judged : goal.returns-clause-judged
returns-clause-judged c = none_broken
