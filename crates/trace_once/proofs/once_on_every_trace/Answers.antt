use Rattle.trace_once.proofs.Kept.{once_always}
use Rattle.trace_once.proofs.once_on_every_trace.Goals as goal

pub returns : goal.returns
returns c = once_always
