-- Its clauses, as one fact.
use Rattle.simulation.proofs.NetworkLaws.{gives_of}
use Rattle.simulation.proofs.network.SimulatedNetworkHostNetwork.next.Goals as goal

pub returns : goal.returns
returns c =
    let e = c.next.ensures in
    gives_of _ _ c.next.result e.made e.drawn e.delivered e.sent e.forth e.left_out e.load e.over
