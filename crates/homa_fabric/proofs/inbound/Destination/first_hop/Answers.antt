-- The first packet of the level's queue, and the queue without it.
use Rattle.std.proofs.Common.{◌≡◌, ◌-◌, ap, sym, ◌∙◌, ℕ, Some, set, arith}
use Rattle.std.specs.List.{slice_get}
use Rattle.circular_buffer.specs.Buffer.{Buffer}
use Rattle.generated_runs.specs.Draws.{draw}
use Rattle.generated_runs.specs.Fabric.{Queued, drawn}
use Rattle.homa_fabric.proofs.QueueLaws.{seen}
use Rattle.homa_fabric.proofs.FirstHops.{old_lost, timely_drawn}
use Rattle.homa_fabric.proofs.inbound.Destination.first_hop.Goals as goal

pub returns-then-saturating_sub-from-clause-hop : goal.returns-then-saturating_sub-from-clause-hop
returns-then-saturating_sub-from-clause-hop c =
    let first : slice_get c.index_mut-queue.result.now.items 0 ≡ Some c.in-Some.packet = sym (c.in-Some.ensures ∙ c.front.ensures) in
    let size : c.packet.inside.size ≡ c.in-Some.packet.size = ap (λ (p : Queued). p.size) c.packet.view_is in
    let tick : c.packet.inside.tick ≡ c.in-Some.packet.tick = ap (λ (p : Queued). p.tick) c.packet.view_is in
    rw (← c.self.view_is)
    (old_lost c.self.inside.levels.items c.self.inside.budget c.self.inside.again c.args.level c.index_mut-queue.result.now c.self.invariant
    c.requires c.index_mut-queue.ensures.value c.args.life c.args.now c.args.random.now c.in-Some.packet c.pop_front.new.self
    first (ap (λ (b : Buffer Queued). b.items) c.pop_front.ensures.items) (omega (arith, size, c.if-self-packet.false))
    (omega (arith, tick, c.saturating_sub.ensures, c.from.ensures, c.if-saturating_sub-from.true)))

pub returns-clause-hop : goal.returns-clause-hop
returns-clause-hop c =
    let first : slice_get c.index_mut-queue.result.now.items 0 ≡ Some c.in-Some.packet = sym (c.in-Some.ensures ∙ c.front.ensures) in
    let size : c.packet.inside.size ≡ c.in-Some.packet.size = ap (λ (p : Queued). p.size) c.packet.view_is in
    let tick : c.packet.inside.tick ≡ c.in-Some.packet.tick = ap (λ (p : Queued). p.tick) c.packet.view_is in
    c.drawn.ensures
    ∙ ap (λ (n : ℕ). drawn c.in-Some.packet
    (seen (set c.self.inside.levels.items c.args.level c.pop_front.new.self) (c.self.inside.budget - n) c.self.inside.again) (draw 64 c.args.random.now)) size
    ∙ rw (← c.self.view_is)
    (timely_drawn c.self.inside.levels.items c.self.inside.budget c.self.inside.again c.args.level c.index_mut-queue.result.now c.self.invariant
    c.requires c.index_mut-queue.ensures.value c.args.life c.args.now c.args.random.now c.in-Some.packet c.pop_front.new.self
    first (ap (λ (b : Buffer Queued). b.items) c.pop_front.ensures.items) (omega (arith, size, c.if-self-packet.false))
    (omega (arith, tick, c.saturating_sub.ensures, c.from.ensures, c.if-saturating_sub-from.false)))
