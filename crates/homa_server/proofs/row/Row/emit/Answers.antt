use Rattle.std.proofs.Common.{arith, subst}
use Rattle.homa_server.specs.Held.{IsKept, IsReplied}
use Rattle.homa_server.specs.View.{held_state}
use Rattle.homa_server.specs.declared.state.State.{State}
use Rattle.homa_server.proofs.KeptLaws.{kept-next}
use Rattle.homa_server.proofs.row.Row.emit.Goals as goal

pub invariant_of-self-2 : goal.invariant_of-self-2
invariant_of-self-2 c =
    let was : IsReplied c.in-Replying.response.items c.in-Replying.out c.in-Replying.base =
    subst (λ (s : State). IsKept (held_state s)) c.in-Replying.is c.self.invariant in
    rw c.next.ensures.part (kept-next c.in-Replying.response.items c.in-Replying.out c.in-Replying.base c.args.now c.args.settings.now.seg was (omega arith))
