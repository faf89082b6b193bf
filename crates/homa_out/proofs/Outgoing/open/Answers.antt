use Rattle.homa_out.proofs.KeptLaws.{kept-opened}
use Rattle.homa_out.proofs.Outgoing.open.Goals as goal

pub invariant_of-result : goal.invariant_of-result
invariant_of-result c = rw (c.upto.ensures, c.min-end.ensures) (kept-opened c.args.len c.args.unsched c.requires.small c.requires.unsched)
