-- Each page of a new pool is free, and is followed by the one with the next number.
use Rattle.std.proofs.Common.{arith, ◌≡◌, ◌*◌, length, refl, ap, ◌∙◌}
use Rattle.std.proofs.lemmas.List.{length-replicate}
use Rattle.msg_pool.proofs.NewLaws.{new-leases, new-kept}
use Rattle.msg_pool.proofs.pool.MsgPool.new.Goals as goal

pub invariant_of-result : goal.invariant_of-result
invariant_of-result c =
    let whole : length c.in_ok-block.block ≡ c.args.pages * 4096 = ap length c.in_ok-block.ensures ∙ length-replicate (c.args.pages * 4096) 0 in
    let size : length c.in_ok-next.next.items ≡ c.args.pages = omega (arith, c.in_ok-next.ensures.len, c.in_ok-next.next.ok.0) in (
      new-kept c.in_ok-block.block c.in_ok-next.next.items c.in_ok-chains.chains c.in_ok-chains.ensures.empty c.args.pages whole size c.requires
          c.in_ok-next.ensures.linked c.in_ok-chains.ensures.capacity,
      refl,
    )

pub returns-clause-no_lease : goal.returns-clause-no_lease
returns-clause-no_lease c = new-leases c.in_ok-block.block c.in_ok-next.next.items c.in_ok-chains.chains c.in_ok-chains.ensures.empty
