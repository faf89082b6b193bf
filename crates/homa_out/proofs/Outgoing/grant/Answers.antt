use Rattle.std.proofs.Common.{arith}
use Rattle.homa_out.proofs.KeptLaws.{kept-granted}
use Rattle.homa_out.proofs.Outgoing.grant.Goals as goal

pub invariant_of-self : goal.invariant_of-self
invariant_of-self c = rw (c.add.ensures, c.min-end.ensures) (kept-granted _ c.args.offset c.args.prio c.self.invariant (omega arith))
