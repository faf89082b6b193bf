use Rattle.homa_out.proofs.KeptLaws.{kept-sent}
use Rattle.homa_out.proofs.FrontLaws.{within-taken}
use Rattle.homa_out.proofs.Outgoing.next.Goals as goal

pub invariant_of-self : goal.invariant_of-self
invariant_of-self c = kept-sent _ c.args.seg _ _ _ _ c.self.invariant c.in-Some.ensures.front c.in-Some.ensures.taken c.max-self-inside.ensures

pub returns-in-Some-clause-within : goal.returns-in-Some-clause-within
returns-in-Some-clause-within c = rw (← c.self.view_is) (within-taken _ c.args.seg _ c.requires c.self.invariant.sound c.take_first-front.ensures.front)
