use Rattle.homa_out.proofs.KeptLaws.{waits}
use Rattle.homa_out.proofs.Outgoing.waiting.Goals as goal

pub returns : goal.returns
returns c = rw (← c.self.view_is) (waits _ _ c.is_empty.ensures)
