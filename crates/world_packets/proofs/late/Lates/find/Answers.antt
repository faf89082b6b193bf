use Rattle.std.proofs.Common.{◌≡◌, ◌-◌, true, List, get_or, sym, subst, arith, rules}
use Rattle.std.specs.Prelude.{nat_le}
use Rattle.std.proofs.lemmas.List.Sorted.{IsPartitionPoint-from_clause}
use Rattle.world_packets.specs.declared.late_ticks.LateTicks.{LateTicks}
use Rattle.world_packets.specs.Firsts.{firsts_at, IsIn}
use Rattle.world_packets.specs.Lates.{late_of}
use Rattle.world_packets.proofs.Parts.{parted, some_before, is_in}
use Rattle.world_packets.proofs.late.Lates.find.Goals as goal

pub overflow_sub-place : goal.overflow_sub-place
overflow_sub-place c =
    let l = c.args.self.now in
    let ts = c.as_slice.result.now in
    let e =
    subst (λ (us : List LateTicks). firsts_at (λ (t : LateTicks). t.first) late_of 0 us l.latest.first ≡ true) (sym c.as_slice.ensures.value) l.firsts in
    let point =
    IsPartitionPoint-from_clause (λ (t : LateTicks). nat_le t.first c.args.n) ts c.partition_point-place.result c.partition_point-place.ensures.partitioned
    (parted (λ (t : LateTicks). t.first) late_of 0 c.args.n ts l.latest.first e) (λ a r q k. search rules) in
    some_before (λ (t : LateTicks). t.first) late_of 0 c.args.n ts l.latest.first c.partition_point-place.result e (omega arith) c.requires point.1

pub returns : goal.returns
returns c =
    let l = c.args.self.now in
    let ts = c.as_slice.result.now in
    let e =
    subst (λ (us : List LateTicks). firsts_at (λ (t : LateTicks). t.first) late_of 0 us l.latest.first ≡ true) (sym c.as_slice.ensures.value) l.firsts in
    let point =
    IsPartitionPoint-from_clause (λ (t : LateTicks). nat_le t.first c.args.n) ts c.partition_point-place.result c.partition_point-place.ensures.partitioned
    (parted (λ (t : LateTicks). t.first) late_of 0 c.args.n ts l.latest.first e) (λ a r q k. search rules) in
    let here = subst (λ (us : List LateTicks). c.index.result.now ≡ get_or us (c.partition_point-place.result - 1) c.index.result.now)
    (sym c.as_slice.ensures.value) c.index.ensures in
    subst (λ (us : List LateTicks). IsIn (λ (t : LateTicks). t.first) late_of us 0 c.args.n c.index.result.now) c.as_slice.ensures.value
    (is_in (λ (t : LateTicks). t.first) late_of 0 c.args.n ts l.latest.first c.partition_point-place.result c.index.result.now e
    (omega arith) c.requires c.partition_point-place.ensures.bound point.0 point.1 here)
