-- Frames of an outbox, one more at the end.
use Rattle.std.proofs.Common.{◌≡◌, ◌<◌, ℕ, zero, suc, ◌+◌, List, [], ◌∷◌, ◌++◌, length, take, ap, ◌∙◌, arith}
use Rattle.std.specs.Prelude.{IfSome, slice_get}
use Rattle.homa_plain.specs.declared.id.HostId.{HostId}
use Rattle.host_view.specs.declared.outbox.SentFrame.{SentFrame}

abbrev pub frame_with : HostId → HostId → List ℕ → SentFrame
frame_with from to bytes = record { from = from; to = to; frame = bytes }

same_frame : (f : SentFrame) (from to : HostId) (bytes : List ℕ) → from ≡ f.from → to ≡ f.to → bytes ≡ f.frame → frame_with from to bytes ≡ f
same_frame f from to bytes a b c = ap (λ i. frame_with i to bytes) a ∙ ap (λ i. frame_with f.from i bytes) b ∙ ap (frame_with f.from f.to) c

more : (fs : List SentFrame) (i : ℕ) (from to : HostId) (bytes : List ℕ) → i < length fs → IfSome (slice_get fs i) (λ f. from ≡ f.from)
    → IfSome (slice_get fs i) (λ f. to ≡ f.to) → IfSome (slice_get fs i) (λ f. bytes ≡ f.frame)
    → take i fs ++ frame_with from to bytes ∷ [] ≡ take (suc i) fs
more [] i from to bytes l a b c = absurd (omega (arith, l))
more (f ∷ fs) zero from to bytes l a b c = ap (λ g. g ∷ []) (same_frame f from to bytes a b c)
more (f ∷ fs) (suc i) from to bytes l a b c = ap (λ gs. f ∷ gs) (more fs i from to bytes (omega (arith, l)) a b c)

pub one_kept : (fs : List SentFrame) (i : ℕ) (from to : HostId) (bytes : List ℕ) → i < length fs → IfSome (slice_get fs i) (λ f. from ≡ f.from)
    → IfSome (slice_get fs i) (λ f. to ≡ f.to) → IfSome (slice_get fs i) (λ f. bytes ≡ f.frame)
    → take i fs ++ frame_with from to bytes ∷ [] ≡ take (i + 1) fs
one_kept fs i from to bytes l a b c = more fs i from to bytes l a b c ∙ ap (λ k. take k fs) {x = suc i} {y = i + 1} (omega arith)
