use Rattle.std.proofs.Common.{◌+◌, ◌-◌, Some, List, ℕ, drop, get_or, ap, sym, subst, ◌∙◌, arith}
use Rattle.world_packets.specs.declared.late_ticks.Later.{Later}
use Rattle.world_packets.specs.Kept.{LatePacket}
use Rattle.world_packets.specs.Later.{last_tick}
use Rattle.world_packets.specs.Lates.{late_of}
use Rattle.world_packets.proofs.LateLaws.{IsLeft, is_here, left_next, no_later, next_tick}
use Rattle.world_packets.proofs.late_ticks.LateTicks.get.Goals as goal

pub overflow_add-tick : goal.overflow_add-tick
overflow_add-tick c =
    let ts = c.as_slice-ticks.result.now in
    let k = c.loop-later.later-index in
    let item : Later = get_or ts k (record { gap = 0; count = 0 }) in
    let at = next_tick ts k (record { gap = 0; count = 0 }) c.loop-later-test.true in
    let last = ap (λ (ls : List Later). last_tick c.loop-later.tick ls) at in
    let least = no_later (c.loop-later.tick + item.gap) (drop (k + 1) ts) in
    omega (arith, last, least, c.loop-later.invariant.last, c.from-tick.ensures)

pub returns-then-left-count : goal.returns-then-left-count
returns-then-left-count c =
    let ts = c.as_slice-ticks.result.now in
    let k = c.loop-later.later-index in
    let item : Later = get_or ts k (record { gap = 0; count = 0 }) in
    let at = next_tick ts k (record { gap = 0; count = 0 }) c.loop-later-test.true in
    let all = late_of c.args.self.now in
    let t = c.loop-later.tick in
    let left = subst (λ (ls : List Later). IsLeft all c.args.i t ls c.loop-later.left) at c.loop-later.invariant.left in
    is_here all c.args.i t item (drop (k + 1) ts) c.loop-later.left left (omega (arith, c.from-count.ensures))
    ∙ ap (λ (g : ℕ). Some (LatePacket (t + g))) (sym c.from-tick.ensures)

pub loop-later-preserved : goal.loop-later-preserved
loop-later-preserved c =
    let ts = c.as_slice-ticks.result.now in
    let k = c.loop-later.later-index in
    let item : Later = get_or ts k (record { gap = 0; count = 0 }) in
    let rest = drop (k + 1) ts in
    let at = next_tick ts k (record { gap = 0; count = 0 }) c.loop-later-test.true in
    let all = late_of c.args.self.now in
    let t = c.loop-later.tick in
    let left = subst (λ (ls : List Later). IsLeft all c.args.i t ls c.loop-later.left) at c.loop-later.invariant.left in
    record {
      left = subst (λ (g : ℕ). IsLeft all c.args.i (t + g) rest (c.loop-later.left - c.from-count.result)) (sym c.from-tick.ensures)
          (subst (λ (n : ℕ). IsLeft all c.args.i (t + item.gap) rest (c.loop-later.left - n)) (sym c.from-count.ensures)
          (left_next all c.args.i t item rest c.loop-later.left left (omega (arith, c.from-count.ensures))));
      last = ap (λ (g : ℕ). last_tick (t + g) rest) c.from-tick.ensures ∙ sym (ap (λ (ls : List Later). last_tick t ls) at) ∙ c.loop-later.invariant.last;
    }
