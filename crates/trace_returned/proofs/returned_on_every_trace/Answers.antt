use Rattle.trace_returned.proofs.Laws.{returned_always}
use Rattle.trace_returned.proofs.returned_on_every_trace.Goals as goal

pub returns : goal.returns
returns c = returned_always
