use Rattle.generated_laws.proofs.Read.{replayed_text}
use Rattle.generated_laws.proofs.schedules_are_taken.Goals as goal

pub returns : goal.returns
returns c = replayed_text
