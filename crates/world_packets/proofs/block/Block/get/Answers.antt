use Rattle.std.proofs.Common.{arith}
use Rattle.world_packets.proofs.Frames.{length-frames, got, frame_by}
use Rattle.world_packets.proofs.block.Block.get.Goals as goal

pub index-rec-requires : goal.index-rec-requires
index-rec-requires c = let long = length-frames 0 c.args.self.now.recs.items c.args.self.now.bytes.items in omega (arith, long)

pub returns : goal.returns
returns c =
    let recs = c.args.self.now.recs.items in
    let long = length-frames 0 recs c.args.self.now.bytes.items in
    frame_by recs c.args.self.now.bytes.items c.deref.result.now c.args.i c.index-rec.result.now _ _
    (got recs c.args.i c.index-rec.result.now (omega (arith, long)) c.index-rec.ensures) c.span-start.ensures.start c.span-start.ensures.end
    c.deref.ensures.value
