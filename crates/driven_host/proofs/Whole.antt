-- What is shown of a step in which no message became whole.
use Rattle.std.proofs.Common.{◌≡◌, ℕ, false, List, [], ◌∷◌, map, refl, sym, ap₂, ◌∙◌}
use Rattle.std.proofs.lemmas.Bool.{or_parts}
use Rattle.homa_plain.specs.Work.{Work}
use Rattle.host_view.specs.declared.mark.Mark.{Mark}
use Rattle.host_view.specs.declared.mark.Mark.TheVariants.{Called, Junk, Stale, Balanced, Ran, Done, Failed, Dropped, TooManyGaps, Entombed, Freed}
use Rattle.host_view.specs.declared.mark.Mark.TheVariants.{NoRow, NoPages, Sent}
use Rattle.host_view.specs.declared.outbox.SentFrame.{SentFrame}
use Rattle.host_view.specs.Seen.{Seen}
use Rattle.host_view.specs.Marks.{shown}
use Rattle.host_view.specs.Done.{IsDone}
use Rattle.driven_host.specs.Asking.{is_whole, has_whole}

module _ (h : Seen) (frames : List SentFrame) (w v : List ℕ) where
  same_shown : (m : Mark) → is_whole m ≡ false → shown h frames w m ≡ shown h frames v m
  same_shown (Ran id service hold) none = cc
  same_shown (Done id) none = cc
  same_shown (Called id server service) none = refl
  same_shown Junk none = refl
  same_shown (Stale at) none = refl
  same_shown (Balanced cutoffs) none = refl
  same_shown (Failed id why) none = refl
  same_shown (Dropped id) none = refl
  same_shown (TooManyGaps id) none = refl
  same_shown (Entombed id until) none = refl
  same_shown (Freed id) none = refl
  same_shown (NoRow id rows limit) none = refl
  same_shown (NoPages id need free) none = refl
  same_shown (Sent n) none = refl

  same_entries : (ms : List Mark) → has_whole ms ≡ false → map (shown h frames w) ms ≡ map (shown h frames v) ms
  same_entries [] none = refl
  same_entries (m ∷ ms) none =
      ap₂ (λ x xs. x ∷ xs) (same_shown m (or_parts (is_whole m) (has_whole ms) none).0) (same_entries ms (or_parts (is_whole m) (has_whole ms) none).1)

  -- a step is shown with any message, where none became whole
  pub done_with : (old : Seen) (step : Work) → has_whole h.marks ≡ false → IsDone old step h frames w → IsDone old step h frames v
  done_with old step none done = record {
    host = done.host;
    settings = done.settings;
    entries = sym (same_entries h.marks none) ∙ done.entries;
    posted = done.posted;
    formed = done.formed;
    sent = done.sent;
  }
