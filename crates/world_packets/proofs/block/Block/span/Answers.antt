use Rattle.std.proofs.Common.{length, arith}
use Rattle.world_packets.proofs.Frames.{length-frames, got, end_got, start_got, within_at}
use Rattle.world_packets.proofs.block.Block.span.Goals as goal

pub index-requires : goal.index-requires
index-requires c = let long = length-frames 0 c.args.self.now.recs.items c.args.self.now.bytes.items in omega (arith, long)

pub returns-then-i-eq0-clause-within : goal.returns-then-i-eq0-clause-within
returns-then-i-eq0-clause-within c =
    let b = c.args.self.now in
    let recs = b.recs.items in
    let long = length-frames 0 recs b.bytes.items in
    (within_at 0 recs (length b.bytes.items) c.args.i c.index.result.now b.ends (got recs c.args.i c.index.result.now (omega (arith, long)) c.index.ensures)).1

pub index-requires-2 : goal.index-requires-2
index-requires-2 c = let long = length-frames 0 c.args.self.now.recs.items c.args.self.now.bytes.items in omega (arith, long)

pub returns-clause-start : goal.returns-clause-start
returns-clause-start c =
    let b = c.args.self.now in
    let recs = b.recs.items in
    let long = length-frames 0 recs b.bytes.items in
    start_got recs c.args.i c.index-2.result.now (omega arith) (omega (arith, long)) c.index-2.ensures

pub returns-clause-end : goal.returns-clause-end
returns-clause-end c =
    let b = c.args.self.now in
    let recs = b.recs.items in
    let long = length-frames 0 recs b.bytes.items in
    end_got recs c.args.i c.index.result.now (got recs c.args.i c.index.result.now (omega (arith, long)) c.index.ensures)

pub returns-clause-order : goal.returns-clause-order
returns-clause-order c =
    let b = c.args.self.now in
    let recs = b.recs.items in
    let long = length-frames 0 recs b.bytes.items in
    let start = start_got recs c.args.i c.index-2.result.now (omega arith) (omega (arith, long)) c.index-2.ensures in
    let order = (within_at 0 recs (length b.bytes.items) c.args.i c.index.result.now b.ends
    (got recs c.args.i c.index.result.now (omega (arith, long)) c.index.ensures)).0 in
    omega (arith, start, order)

pub returns-clause-within : goal.returns-clause-within
returns-clause-within c =
    let b = c.args.self.now in
    let recs = b.recs.items in
    let long = length-frames 0 recs b.bytes.items in
    (within_at 0 recs (length b.bytes.items) c.args.i c.index.result.now b.ends (got recs c.args.i c.index.result.now (omega (arith, long)) c.index.ensures)).1
