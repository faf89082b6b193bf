-- What became of the packet that came first, as the definitions have it.
use Rattle.rand_pcg.specs.Lcg.{Lcg}
use Rattle.generated_runs.specs.Fabric.{Destination}
use Rattle.generated_runs.specs.Fabric as fabric
use Rattle.homa_fabric.specs.declared.inbound.Hop.{Hop}
use Rattle.homa_fabric.specs.declared.inbound.Hop.TheVariants.{Ends, Loses, Hands}

-- with what is on its way afterwards, and the generator
abbrev pub plain_hop : Hop → Destination → Lcg → fabric.Hop
plain_hop Ends d g = fabric.Ends
plain_hop Loses d g = fabric.Loses d g
plain_hop (Hands number) d g = fabric.Hands number d g
