use Rattle.node_laws.proofs.Loops.{recordings_repeat}
use Rattle.node_laws.proofs.recordings_repeat.Goals as goal

pub returns : goal.returns
returns c = recordings_repeat
