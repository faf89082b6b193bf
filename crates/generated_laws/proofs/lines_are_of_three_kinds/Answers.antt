use Rattle.generated_laws.proofs.Runs.{generated_sound}
use Rattle.generated_laws.proofs.lines_are_of_three_kinds.Goals as goal

pub returns : goal.returns
returns c = λ seed calls boxes answers most. (generated_sound seed calls boxes answers most).lines
