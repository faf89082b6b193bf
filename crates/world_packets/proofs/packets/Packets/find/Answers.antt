use Rattle.std.proofs.Common.{◌≡◌, ◌<◌, ◌-◌, ◌∙◌, length, ap, sym, arith, rules}
use Rattle.std.specs.Prelude.{nat_le}
use Rattle.std.proofs.lemmas.List.{get_or_default}
use Rattle.std.proofs.lemmas.List.Sorted.{IsPartitionPoint-from_clause}
use Rattle.world_packets.specs.declared.tick.Tick.{Tick}
use Rattle.world_packets.specs.Ticks.{kept_of}
use Rattle.world_packets.specs.Past.{past_kept}
use Rattle.world_packets.proofs.Parts.{parted, some_before, is_in, has_some, in_last}
use Rattle.world_packets.proofs.packets.Packets.find.Goals as goal

pub overflow_sub-last : goal.overflow_sub-last
overflow_sub-last c =
    let p = c.args.self.now in
    let some = has_some (λ (t : Tick). t.first) kept_of (length (past_kept p.past)) c.args.n p.ticks.items p.first p.firsts c.requires.from c.requires.to in
    omega (arith, some)

pub returns-then-index-n : goal.returns-then-index-n
returns-then-index-n c =
    let p = c.args.self.now in
    let m = length (past_kept p.past) in
    let t = c.index-then-index-n.result.now in
    let last = c.len-last.result - 1 in
    let some = has_some (λ (u : Tick). u.first) kept_of m c.args.n p.ticks.items p.first p.firsts c.requires.from c.requires.to in
    let inside : last < length p.ticks.items = omega (arith, some, c.len-last.ensures) in
    let same : c.index.result.now ≡ t = c.index.ensures ∙ get_or_default p.ticks.items last _ _ inside ∙ sym c.index-then-index-n.ensures in
    in_last (λ (u : Tick). u.first) kept_of m c.args.n p.ticks.items p.first last t p.firsts c.requires.from c.requires.to
    (omega (arith, some, c.len-last.ensures)) c.index-then-index-n.ensures (omega (arith, c.if-index-n.true, ap (λ (u : Tick). u.first) same))

pub overflow_sub-place : goal.overflow_sub-place
overflow_sub-place c =
    let p = c.args.self.now in
    let m = length (past_kept p.past) in
    let point = IsPartitionPoint-from_clause (λ (t : Tick). nat_le t.first c.args.n) p.ticks.items c.partition_point-place.result
    c.partition_point-place.ensures.partitioned
    (parted (λ (t : Tick). t.first) kept_of m c.args.n p.ticks.items p.first p.firsts) (λ a r q k. search rules) in
    some_before (λ (t : Tick). t.first) kept_of m c.args.n p.ticks.items p.first c.partition_point-place.result p.firsts c.requires.from c.requires.to point.1

pub returns : goal.returns
returns c =
    let p = c.args.self.now in
    let m = length (past_kept p.past) in
    let point = IsPartitionPoint-from_clause (λ (t : Tick). nat_le t.first c.args.n) p.ticks.items c.partition_point-place.result
    c.partition_point-place.ensures.partitioned
    (parted (λ (t : Tick). t.first) kept_of m c.args.n p.ticks.items p.first p.firsts) (λ a r q k. search rules) in
    is_in (λ (t : Tick). t.first) kept_of m c.args.n p.ticks.items p.first c.partition_point-place.result c.index-2.result.now p.firsts c.requires.from
    c.requires.to
    (omega (arith, c.partition_point-place.ensures.bound)) point.0 point.1 c.index-2.ensures
