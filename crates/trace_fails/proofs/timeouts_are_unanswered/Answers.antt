use Rattle.trace_fails.proofs.FairLaw.{timeouts_always}
use Rattle.trace_fails.proofs.timeouts_are_unanswered.Goals as goal

pub returns : goal.returns
returns c = timeouts_always
