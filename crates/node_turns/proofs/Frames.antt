-- Frames that are sent one after another.
use Rattle.std.proofs.Common.{◌≡◌, ◌<◌, ◌+◌, ℕ, zero, suc, arith, Option, None, Some, List, [], ◌∷◌, length, take, refl, sym, ap, ◌∙◌, subst}
use Rattle.std.specs.Prelude.{map, slice_get, IfSome}
use Rattle.homa_plain.specs.declared.id.HostId.{HostId}
use Rattle.host_view.specs.declared.outbox.SentFrame.{SentFrame}
use Rattle.node_io.specs.Net.{added}
use Rattle.node_runs.specs.Course.{Datagram}
use Rattle.node_runs.specs.Acts.{Sent}
use Rattle.node_turns.specs.Told.{listed}
use Rattle.node_turns.specs.Acting.{frame_datagram, frame_act}
use Rattle.node_turns.proofs.Lists.{sent_more}

none_at : {A : Type 0} (xs : List A) (i : ℕ) → i < length xs → slice_get xs i ≡ None → ⊥
none_at [] i l e = omega (arith, l)
none_at (x ∷ xs) zero l e = cc
none_at (x ∷ xs) (suc i) l e = none_at xs i (omega (arith, l)) e

sent_by : {B : Type 0} (f : Datagram → B) (box : List SentFrame) (i : ℕ) (from to : HostId) (bytes : List ℕ) (old mid new : Option (List B))
    (o : Option SentFrame)
    → slice_get box i ≡ o → i < length box
    → IfSome o (λ x. from ≡ x.from) → IfSome o (λ x. to ≡ x.to) → IfSome o (λ x. bytes ≡ x.frame)
    → mid ≡ listed old (map (λ x. f (frame_datagram x)) (take i box)) → new ≡ added mid (f (record { from = from; to = to; bytes = bytes }))
    → new ≡ listed old (map (λ x. f (frame_datagram x)) (take (i + 1) box))
sent_by f box i from to bytes old mid new None at l p t b e h = absurd (none_at box i l at)
sent_by f box i from to bytes old mid new (Some x) at l p t b e h =
    sent_more (λ x. f (frame_datagram x)) box i x old mid new at e
    (h ∙ ap (λ y. added mid (f (record { from = y; to = to; bytes = bytes }))) p ∙ ap (λ y. added mid (f (record { from = x.from; to = y; bytes = bytes }))) t
    ∙ ap (λ y. added mid (f (record { from = x.from; to = x.to; bytes = y }))) b)

-- the frame of an outbox
pub frame_sent : {B : Type 0} (f : Datagram → B) (box frames : List SentFrame) (i : ℕ) (from to : HostId) (bytes : List ℕ) (old mid new : Option (List B))
    → box ≡ frames → i < length box
    → IfSome (slice_get box i) (λ x. from ≡ x.from) → IfSome (slice_get box i) (λ x. to ≡ x.to) → IfSome (slice_get box i) (λ x. bytes ≡ x.frame)
    → mid ≡ listed old (map (λ x. f (frame_datagram x)) (take i frames)) → new ≡ added mid (f (record { from = from; to = to; bytes = bytes }))
    → new ≡ listed old (map (λ x. f (frame_datagram x)) (take (i + 1) frames))
frame_sent f box frames i from to bytes old mid new same l p t b e h =
    subst (λ xs. new ≡ listed old (map (λ x. f (frame_datagram x)) (take (i + 1) xs))) same
    (sent_by f box i from to bytes old mid new (slice_get box i) refl l p t b
    (subst (λ xs. mid ≡ listed old (map (λ x. f (frame_datagram x)) (take i xs))) (sym same) e) h)

-- what frames do, as what their datagrams do
pub acts_of : (frames : List SentFrame) → map frame_act frames ≡ map Sent (map frame_datagram frames)
acts_of [] = refl
acts_of (f ∷ frames) = ap (λ xs. frame_act f ∷ xs) (acts_of frames)
