-- After eight turns there are eight empty queues.
use Rattle.std.proofs.Common.{◌≡◌, ℕ, None, ap, ◌∙◌, sym, subst, [], ◌∷◌, ◌++◌, List, map, replicate, arith}
use Rattle.circular_buffer.specs.Buffer.{Buffer, buffer}
use Rattle.generated_runs.specs.Fabric.{Queued, most_queued}
use Rattle.homa_fabric.specs.Queues.{AreQueues}
use Rattle.homa_fabric.proofs.Opened.{one_more, empty_queues}
use Rattle.homa_fabric.proofs.inbound.Destination.open.Goals as goal

pub loop-init : goal.loop-init
loop-init c = c.in_ok-levels.ensures.items

pub loop-preserved : goal.loop-preserved
loop-preserved c = c.in_ok-push.ensures.items ∙ ap (λ (q : Buffer Queued). c.loop.levels.items ++ q ∷ []) c.in_ok-with_capacity.ensures
    ∙ one_more c.loop.counter c.loop.levels.items (buffer [] most_queued) c.loop.invariant

eight : (c : goal.After-loop) → c.loop.levels.items ≡ replicate 8 (buffer [] most_queued)
eight c =
    let all : c.loop.counter ≡ 8 = omega (arith, c.loop-test.false, c.loop.auto) in c.loop.invariant ∙ ap (λ (n : ℕ). replicate n (buffer [] most_queued)) all

pub invariant_of-result : goal.invariant_of-result
invariant_of-result c = subst AreQueues (sym (eight c)) empty_queues

pub returns : goal.returns
returns c = ap (λ (qs : List (Buffer Queued)). record { levels = map (λ (q : Buffer Queued). q.items) qs; budget = 0; again = None }) (eight c)
