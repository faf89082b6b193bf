use Rattle.std.proofs.Common.{◌<◌, arith, List, ℕ, subst, slice_index_or}
use Rattle.node_hosts.proofs.fair.FairService.serve.Goals as goal

pub returns-clause-allowed : goal.returns-clause-allowed
returns-clause-allowed g c = (
  c.in_ok-reply.ensures.allowed,
  (
    (omega (arith, c.in_ok-reply.ensures.some), c.in_ok-reply.ensures.size),
    (λ i. subst (λ (bytes : List ℕ). slice_index_or bytes i 0 < 256) c.bytes.ensures (c.know_bytes.ensures i)),
    c.in_ok-reply.ensures.hold,
  ),
)
