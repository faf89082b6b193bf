use Rattle.host_laws.proofs.Keeps.{ended-keeps}
use Rattle.host_laws.proofs.laws.rows_keep_bytes.Goals as goal

pub returns : goal.returns
returns c = ended-keeps
