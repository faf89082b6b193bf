use Rattle.homa_script.proofs.Events.{line_is}
use Rattle.homa_script.proofs.laws.reads_back.Goals as goal

pub returns : goal.returns
returns c = line_is
