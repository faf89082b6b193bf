-- Queues and destinations without packets.
use Rattle.std.proofs.Common.{◌≡◌, refl, ap, ◌∙◌, ℕ, ◌+◌, List, [], ◌∷◌, ◌++◌, replicate}
use Rattle.std.proofs.lemmas.List.{replicate-append-replicate}
use Rattle.std.proofs.lemmas.List.Elements.{All-replicate}
use Rattle.circular_buffer.specs.Buffer.{Buffer, buffer}
use Rattle.generated_runs.specs.Fabric.{Queued, most_queued}
use Rattle.homa_fabric.specs.Queues.{AreQueues}

-- one more of the same
pub one_more : {A : Type 0} (n : ℕ) (xs : List A) (x : A) → xs ≡ replicate n x → xs ++ x ∷ [] ≡ replicate (n + 1) x
one_more n xs x is = ap (λ (ys : List _). ys ++ x ∷ []) is ∙ replicate-append-replicate n 1 x

-- eight queues without packets
pub empty_queues : AreQueues (replicate 8 (buffer {X = Queued} [] most_queued))
empty_queues = record { eight = refl; room = All-replicate (λ (q : Buffer Queued). q.capacity ≡ most_queued) 8 (buffer [] most_queued) refl }
