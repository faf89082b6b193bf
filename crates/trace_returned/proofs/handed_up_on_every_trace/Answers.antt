use Rattle.trace_returned.proofs.Laws.{handed_up_always}
use Rattle.trace_returned.proofs.handed_up_on_every_trace.Goals as goal

pub returns : goal.returns
returns c = handed_up_always
