use Rattle.homa_out.proofs.FrontLaws.{front_some, front_none}
use Rattle.homa_out.proofs.Outgoing.peek.Goals as goal

pub returns-in_err-from-clause-range : goal.returns-in_err-from-clause-range
returns-in_err-from-clause-range c = rw (c.from_residual.ensures, ← c.self.view_is) (front_none _ c.args.seg c.self.invariant.sound c.in_err-from.ensures.value)

pub returns-clause-range : goal.returns-clause-range
returns-clause-range c =
    rw (c.min.ensures, ← c.self.view_is)
    (front_some _ c.args.seg c.in_ok-from.from c.in_ok-from.to c.self.invariant.sound c.in_ok-from.ensures.value c.in_ok-from.ensures.within.0)
