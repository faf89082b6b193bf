use Rattle.homa_out.proofs.KeptLaws.{kept-restart}
use Rattle.homa_out.proofs.Outgoing.restart.Goals as goal

pub invariant_of-self : goal.invariant_of-self
invariant_of-self c = rw (c.upto-self-inside.ensures, c.min-self-inside.ensures) (kept-restart _ c.self.invariant)
