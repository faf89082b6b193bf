use Rattle.homa_node.proofs.Openings.{opening_never}
use Rattle.homa_node.proofs.opening.read_setup.Goals as goal

pub returns-in-Err-clause-never_strange : goal.returns-in-Err-clause-never_strange
returns-in-Err-clause-never_strange g c = opening_never c.stop_at.result _ _ c.stop_at.ensures
