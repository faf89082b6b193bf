use Rattle.plain_sets.proofs.CutLaws.{first-first_in}
use Rattle.plain_sets.proofs.first_ranges.Goals as goal

pub returns : goal.returns
returns c = first-first_in
