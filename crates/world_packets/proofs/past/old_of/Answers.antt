use Rattle.std.proofs.Common.{refl, arith}
use Rattle.world_packets.proofs.PastLaws.{tells_clock}
use Rattle.world_packets.proofs.past.old_of.Goals as goal

pub returns-clause-some : goal.returns-clause-some
returns-clause-some c = (refl, tells_clock _ _ c.in-Some.packet c.in-Some.ensures.read, omega arith)
