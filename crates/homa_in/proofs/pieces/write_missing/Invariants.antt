-- The bytes before `from` are filled in, and only the lease's bytes changed.
use Rattle.std.proofs.Common.{◌≡◌, ◌-◌, ◌≤◌}
use Rattle.msg_pool.specs.Pool.{bytes_of, IsLeaseOf, with_bytes}
use Rattle.homa_in.specs.Filled.{IsFilled}
use Rattle.homa_in.proofs.pieces.write_missing.Given as goal

abbrev pub invariant-loop-from : goal.invariant-loop-from
invariant-loop-from l = record {
  low : l.offset ≤ l.from;
  high : l.from ≤ l.end;
  lease : IsLeaseOf l.pool l.lease;
  pool : l.pool ≡ with_bytes l.initial.pool l.lease (bytes_of l.pool l.lease);
  filled : IsFilled l.missing l.offset l.from l.bytes (bytes_of l.initial.pool l.lease) (bytes_of l.pool l.lease);
}

abbrev pub decreases-loop-from : goal.decreases-loop-from
decreases-loop-from l = l.end - l.from
