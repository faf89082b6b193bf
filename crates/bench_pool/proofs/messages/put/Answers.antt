-- The lease stays the pool's while it is written.
use Rattle.msg_pool.proofs.Leases.{after_write}
use Rattle.bench_pool.proofs.messages.put.Goals as goal

pub returns : goal.returns
returns c = after_write c.args.pool.now c.write.new.self c.args.lease.now c.args.lease.now c.args.offset c.args.piece.now c.requires.fits
    c.requires.lease c.write.ensures c.requires.lease
