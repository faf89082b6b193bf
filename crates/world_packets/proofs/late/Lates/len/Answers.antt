use Rattle.std.proofs.Common.{arith}
use Rattle.world_packets.proofs.LatesLaws.{lates_length}
use Rattle.world_packets.proofs.late.Lates.len.Goals as goal

pub returns : goal.returns
returns c = omega (arith, c.end.ensures, lates_length c.args.self.now)
