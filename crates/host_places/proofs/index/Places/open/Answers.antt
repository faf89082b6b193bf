use Rattle.std.proofs.Common.{arith, ap, ◌∙◌}
use Rattle.host_places.specs.Index.{map_of}
use Rattle.host_places.proofs.IndexLaws.{open_kept, map_of-nil}
use Rattle.host_places.proofs.index.Places.open.Goals as goal

pub invariant_of-result : goal.invariant_of-result
invariant_of-result c =
    (open_kept _ _ c.in_ok-index.ensures.items c.in_ok-free.ensures.items, omega arith, c.in_ok-index.ensures.capacity, c.in_ok-free.ensures.capacity)

pub returns : goal.returns
returns c = let e = ap map_of c.in_ok-index.ensures.items ∙ map_of-nil in λ i. record { room = c.args.room; at = e i }
