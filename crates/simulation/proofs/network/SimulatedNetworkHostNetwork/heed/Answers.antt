-- Its clauses, as one fact.
use Rattle.simulation.proofs.NetworkLaws.{heeds_of}
use Rattle.simulation.proofs.network.SimulatedNetworkHostNetwork.heed.Goals as goal

pub returns : goal.returns
returns c =
    let e = c.heed.ensures in
    heeds_of _ _ c.heed.result _ c.args.passing c.datagram_of.result c.datagram_of.ensures e.made e.sent e.stays
