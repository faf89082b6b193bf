-- The queue takes it, or stays as it was.
use Rattle.std.proofs.Common.{arith}
use Rattle.network_parts.proofs.PortLaws.{on_err_is, same_port, waits, stays}
use Rattle.network_parts.proofs.port.Port.enter.Goals as goal

pub returns-in_err-push_back-clause-err : goal.returns-in_err-push_back-clause-err
returns-in_err-push_back-clause-err g c =
    let same = stays (λ q. q.items) c.self.inside.levels.items c.args.level c.index_mut.result.now c.push_back.new.self
    (omega (arith, c.requires, c.self.invariant)) c.index_mut.ensures.value c.in_err-push_back.ensures.items in
    on_err_is c.from_residual.result _ _ (same_port _ _ c.self.inside.room _ same c.self.view_is)

pub returns-clause-waits : goal.returns-clause-waits
returns-clause-waits g c = λ _.
    rw (← c.self.view_is)
    (waits (λ q. q.items) c.self.inside.levels.items c.args.level c.index_mut.result.now c.push_back.new.self c.args.waiting
    (omega (arith, c.requires, c.self.invariant)) c.index_mut.ensures.value c.in_ok-push_back.ensures.items)
