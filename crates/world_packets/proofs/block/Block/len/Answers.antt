use Rattle.std.proofs.Common.{arith}
use Rattle.world_packets.proofs.Frames.{length-frames}
use Rattle.world_packets.proofs.block.Block.len.Goals as goal

pub returns : goal.returns
returns c = let long = length-frames 0 c.args.self.now.recs.items c.args.self.now.bytes.items in omega (arith, long, c.len.ensures)
