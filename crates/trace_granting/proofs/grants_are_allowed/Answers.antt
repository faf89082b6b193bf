use Rattle.trace_granting.proofs.GrantLaw.{granting_always}
use Rattle.trace_granting.proofs.grants_are_allowed.Goals as goal

pub returns : goal.returns
returns c = granting_always
