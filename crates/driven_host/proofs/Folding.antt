-- The frame at a place within the outbox.
use Rattle.std.proofs.Common.{◌≡◌, ◌<◌, ℕ, Option, Some, None, List, length, refl, sym, ap, ◌∙◌, arith}
use Rattle.std.specs.Prelude.{nat_lt, is_some, false, IfSome, slice_get}
use Rattle.std.proofs.lemmas.Bool.Decides.{nat_tests}
use Rattle.plain_sets.proofs.SpreadLaws.{is_some-slice_get}
use Rattle.host_view.specs.declared.outbox.SentFrame.{SentFrame}

none_within : (fs : List SentFrame) (k : ℕ) → slice_get fs k ≡ None → k < length fs → ⊥
none_within fs k e less = let is : nat_lt k (length fs) ≡ false = sym (is_some-slice_get fs k) ∙ ap is_some e in grind (arith, nat_tests, is, less)

-- its bytes are these
pub frame_at : (frames : List SentFrame) (i : ℕ) (bytes : List ℕ) → IfSome (slice_get frames i) (λ f. bytes ≡ f.frame) → i < length frames
    → (f : SentFrame) × (slice_get frames i ≡ Some f) × (f.frame ≡ bytes)
frame_at frames i bytes is within = by_option (slice_get frames i) refl is where
  by_option : (o : Option SentFrame) → slice_get frames i ≡ o → IfSome o (λ f. bytes ≡ f.frame)
      → (f : SentFrame) × (slice_get frames i ≡ Some f) × (f.frame ≡ bytes)
  by_option (Some f) e same = (f, e, sym same)
  by_option None e same = absurd (none_within frames i e within)
