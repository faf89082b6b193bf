-- No page is stored.
use Rattle.std.proofs.Common.{arith, ap, ◌∙◌, ◌*◌, length}
use Rattle.msg_pool.specs.Stored.{bytes_in}
use Rattle.msg_pool.proofs.StoredLaws.{none_stored}
use Rattle.msg_pool.proofs.block.Block.new.Goals as goal

pub invariant_of-result : goal.invariant_of-result
invariant_of-result c =
    let no_bytes = ap length c.in_ok-stored.ensures.items in
    let no_ends = ap length c.in_ok-ends.ensures.items in
    record {
      whole = omega (arith, no_bytes, no_ends);
      within = omega (arith, no_ends);
      room = c.in_ok-stored.ensures.capacity;
      room_of_ends = c.in_ok-ends.ensures.capacity;
    }

pub returns : goal.returns
returns c =
    (λ i. bytes_in (c.in_ok-stored.ensures.items i) (c.in_ok-ends.ensures.items i) (c.args.pages * 4096)) ∙ none_stored (c.args.pages * 4096)
