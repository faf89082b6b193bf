use Rattle.trace_laws.proofs.Joined.{fails_always}
use Rattle.trace_laws.proofs.fails_on_every_trace.Goals as goal

pub returns : goal.returns
returns c = fails_always
