use Rattle.trace_laws.proofs.Joined.{obeyed_always}
use Rattle.trace_laws.proofs.laws_on_every_trace.Goals as goal

pub returns : goal.returns
returns c = obeyed_always
