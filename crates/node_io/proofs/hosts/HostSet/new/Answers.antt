use Rattle.node_io.proofs.Absent.{nowhere}
use Rattle.node_io.proofs.hosts.HostSet.new.Goals as goal

pub returns : goal.returns
returns c = λ h. nowhere 65536 h.0
