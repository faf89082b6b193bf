use Rattle.quiet_laws.proofs.Unrefused.{comes_to_its_end}
use Rattle.quiet_laws.proofs.quiet_calls_end.Goals as goal

pub returns : goal.returns
returns c = comes_to_its_end
