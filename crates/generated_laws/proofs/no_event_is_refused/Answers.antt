use Rattle.generated_laws.proofs.Runs.{unrefused}
use Rattle.generated_laws.proofs.no_event_is_refused.Goals as goal

pub returns : goal.returns
returns c = unrefused
