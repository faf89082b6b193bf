-- There are eight levels.
use Rattle.homa_fabric.proofs.inbound.Destination.hop.Goals as goal

pub first_hop-requires : goal.first_hop-requires
first_hop-requires c = c.in-Some-highest.ensures.inside
