use Rattle.trace_returned.proofs.Laws.{forgotten_always}
use Rattle.trace_returned.proofs.forgotten_on_every_trace.Goals as goal

pub returns : goal.returns
returns c = forgotten_always
