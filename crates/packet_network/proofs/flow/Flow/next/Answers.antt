-- What the agenda says, as one fact.
use Rattle.packet_network.proofs.OrderLaws.{is_next}
use Rattle.packet_network.proofs.flow.Flow.next.Goals as goal

pub returns-clause-next : goal.returns-clause-next
returns-clause-next c =
    let e = c.in_ok-due.ensures in
    is_next _ _ c.in_ok-due.due e.taken e.first e.now e.counted
