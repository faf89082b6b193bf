-- The queue takes it, or is full.
use Rattle.std.proofs.Common.{◌<◌, arith}
use Rattle.homa_fabric.proofs.QueueLaws.{packet_entered}
use Rattle.homa_fabric.proofs.inbound.Destination.enter.Goals as goal

pub returns-then-from-len : goal.returns-then-from-len
returns-then-from-len c =
    let inside : c.args.level < 8 = omega (arith, c.if-from-len.true, c.from.ensures, c.len.ensures, c.self.invariant.eight, c.self.inside.levels.ok) in
    rw (← c.self.view_is)
    (packet_entered c.self.inside.levels.items c.self.inside.budget c.self.inside.again c.args.level c.args.packet c.index_mut-queue.result.now
    c.try_push_back.new.self c.try_push_back.result c.self.invariant inside c.index_mut-queue.ensures.value c.try_push_back.ensures.variant
    c.try_push_back.ensures.ok c.try_push_back.ensures.err)
