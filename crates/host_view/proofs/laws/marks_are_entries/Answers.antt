use Rattle.host_view.proofs.Told.{shown-told}
use Rattle.host_view.proofs.laws.marks_are_entries.Goals as goal

pub returns : goal.returns
returns c = shown-told
