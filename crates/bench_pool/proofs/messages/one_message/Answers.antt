-- A message that was just opened stands in the pool.
use Rattle.std.proofs.Common.{sym, ap, subst, ◌∙◌}
use Rattle.msg_pool.specs.Pool.{IsLeaseOf}
use Rattle.msg_pool.proofs.Leases.{lease-taken}
use Rattle.homa_in.specs.Part.{Part, IsIn}
use Rattle.bench_pool.proofs.messages.one_message.Goals as goal

pub pieces-init : goal.pieces-init
pieces-init c =
    let leased = lease-taken c.args.pool.now c.take.new.self c.in-Ok.lease 1000000 c.in-Ok.ensures.len c.in-Ok.ensures.zeros in
    record {
      length = ap (λ (x : Part). x.length) c.open-part.ensures.part;
      inside = subst (IsIn c.take.new.self) (sym c.open-part.ensures.part) (record { lease = leased; length = c.in-Ok.ensures.len });
    }
