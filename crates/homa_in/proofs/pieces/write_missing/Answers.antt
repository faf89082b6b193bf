-- One more range of missing bytes is filled in, and only the lease's bytes change.
use Rattle.std.proofs.Common.{◌≡◌, ◌+◌, ◌≤◌, List, ℕ, length, sym, subst, arith}
use Rattle.msg_pool.specs.Pool.{bytes_of, with_bytes}
use Rattle.msg_pool.proofs.Leases.{length-bytes_of}
use Rattle.homa_in.specs.Filled.{IsFilled}
use Rattle.homa_in.proofs.FillLaws.{next_is, filled_none, filled_more}
use Rattle.homa_in.proofs.LeaseLaws.{pool-itself, pool-written, pool-again, lease-stays}
use Rattle.homa_in.proofs.pieces.write_missing.Goals as goal

pub loop-from-init : goal.loop-from-init
loop-from-init c = record {
  low = omega arith;
  high = omega arith;
  lease = c.requires.lease;
  pool = sym (pool-itself c.args.pool.now c.args.lease.now c.requires.lease);
  filled = filled_none c.args.missing.now c.args.offset c.args.bytes.now (bytes_of c.args.pool.now c.args.lease.now);
}

pub loop-from-preserved : goal.loop-from-preserved
loop-from-preserved c =
    let inv = c.loop-from.invariant in
    let within = c.in-Some.ensures.within in
    let next =
    next_is c.args.missing.now c.loop-from.from (c.args.offset + length c.args.bytes.now) (c.in-Some.first, c.in-Some.after) c.in-Some.ensures.value in
    let fits : c.args.offset + length c.args.bytes.now ≤ length (bytes_of c.args.pool.now c.args.lease.now) =
    omega (arith, c.requires.fits, length-bytes_of c.args.pool.now c.args.lease.now c.requires.lease) in
    let now = pool-written c.loop-from.pool c.write.new.self c.args.lease.now _ c.write.ensures in
    let pool : c.write.new.self ≡ with_bytes c.args.pool.now c.args.lease.now (bytes_of c.write.new.self c.args.lease.now) =
    pool-again c.args.pool.now c.loop-from.pool c.write.new.self c.args.lease.now _ inv.pool c.write.ensures in
    let filled : IsFilled c.args.missing.now c.args.offset c.in-Some.after c.args.bytes.now (bytes_of c.args.pool.now c.args.lease.now)
    (bytes_of c.write.new.self c.args.lease.now) =
    subst (λ (xs : List ℕ). IsFilled c.args.missing.now c.args.offset c.in-Some.after c.args.bytes.now (bytes_of c.args.pool.now c.args.lease.now) xs) (sym now)
    (filled_more c.args.missing.now c.args.offset c.loop-from.from c.in-Some.first c.in-Some.after c.args.bytes.now
    (bytes_of c.args.pool.now c.args.lease.now) (bytes_of c.loop-from.pool c.args.lease.now) inv.filled inv.low within.0 within.1 within.2 fits
    next.none next.all) in
    record {
      low = omega (arith, inv.low, within.0, within.1);
      high = within.2;
      lease = lease-stays c.args.pool.now c.args.lease.now c.requires.lease c.write.new.self pool filled.length;
      pool = pool;
      filled = filled;
    }
