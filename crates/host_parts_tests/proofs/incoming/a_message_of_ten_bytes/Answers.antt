-- The message stands under the lease that was taken.
use Rattle.std.proofs.Common.{◌≡◌, sym, ap, subst, ◌∙◌}
use Rattle.msg_pool.specs.Pool.{Held, IsLeaseOf}
use Rattle.msg_pool.proofs.Leases.{lease-taken}
use Rattle.homa_in.specs.Part.{Part}
use Rattle.host_parts_tests.proofs.incoming.a_message_of_ten_bytes.Goals as goal

pub put_two-requires-clause-pool : goal.put_two-requires-clause-pool
put_two-requires-clause-pool g c =
    let part = c.raise.ensures.part ∙ ap (λ (p : Part). record p { granted = 10 }) c.open-part.ensures.part in
    let lease : c.raise.new.self.lease ≡ c.in_ok-lease.lease = ap (λ (p : Part). p.lease) part in
    let length : c.raise.new.self.length ≡ 10 = ap (λ (p : Part). p.length) part in
    record {
      lease = subst (IsLeaseOf c.take.new.self) (sym lease)
          (lease-taken c.in_ok-pool.pool c.take.new.self c.in_ok-lease.lease 10 c.in_ok-lease.ensures.len c.in_ok-lease.ensures.zeros);
      length = ap (λ (h : Held). h.len) lease ∙ c.in_ok-lease.ensures.len ∙ sym length;
    }
