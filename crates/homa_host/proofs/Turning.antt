-- A turn, by the rows that are due first one after another.
use Rattle.std.proofs.Common.{◌≡◌, ◌≤◌, ℕ, zero, suc, Option, Some, None, List, refl, sym, ap, subst, ◌∙◌}
use Rattle.std.specs.Option.{option_map}
use Rattle.plain_sets.specs.Ordered.{first_of}
use Rattle.homa_plain.specs.declared.settings.Settings.{Settings}
use Rattle.homa_plain.specs.Timers.{due}
use Rattle.homa_plain.specs.Timers.{Timer, timer_key, timers}
use Rattle.homa_plain.specs.Work.{Work, now_of}
use Rattle.homa_plain.specs.Steps.{acts}
use Rattle.step_laws.specs.StepLaws.{first_acts, picked_anew}
use Rattle.step_laws.proofs.Picking.{acts-picked}
use Rattle.homa_timers.specs.Armed as armed
use Rattle.host_view.specs.declared.outbox.SentFrame.{SentFrame}
use Rattle.host_view.specs.Seen.{timer_of}
use Rattle.host_view.proofs.ByBook.{first_due-book}
use Rattle.homa_host.specs.Parts.{host_of, seen_of, IsKept}
use Rattle.homa_host.specs.Amid.{Amid}
use Rattle.homa_host.specs.declared.parts.HostParts.{HostParts}

-- so many rows still may act
abbrev pub IsTurning : HostParts → List SentFrame → HostParts → List SentFrame → ℕ → Type 0
IsTurning old before new after n =
    (w : Work) → Amid w old before → (v : Work) × Amid v new after × (picked_anew old.control.settings n v ≡ picked_anew old.control.settings 32 w)

-- one more acts
pub turning_on : (old mid new : HostParts) (before between after : List SentFrame) (n : ℕ) → mid.control.settings ≡ old.control.settings
    → IsTurning old before mid between (suc n)
    → ((w : Work) → Amid w mid between → Amid
    (first_acts mid.control.settings (first_of (due timer_key (now_of w) (timers mid.control.settings w.host))) w) new after)
    → IsTurning old before new after n
unfolding picked_anew
turning_on old mid new before between after n settings turning step w amid =
    let t = turning w amid in (
      first_acts old.control.settings (first_of (due timer_key (now_of t.0) (timers old.control.settings t.0.host))) t.0,
      subst (λ (s : Settings). Amid (first_acts s (first_of (due timer_key (now_of t.0) (timers s t.0.host))) t.0) new after) settings (step t.0 t.1),
      t.2,
    )

-- where none is due none acts
pub picked_none : (s : Settings) (n : ℕ) (w : Work) → first_of (due timer_key (now_of w) (timers s w.host)) ≡ None → picked_anew s n w ≡ w
unfolding picked_anew
picked_none s zero w none = refl
picked_none s (suc n) w none = ap (λ o. picked_anew s n (first_acts s o w)) none ∙ picked_none s n w none

-- by the book none is due
pub none_due : (c : HostParts) → IsKept c
    → option_map (λ (t : armed.Timer). t.slot) (first_of (due armed.timer_key c.control.last c.books.timers.timers)) ≡ None
    → first_of (due timer_key c.control.last (timers c.control.settings (host_of c))) ≡ None
none_due c kept none =
    by_case _ (ap (option_map (λ (t : armed.Timer). t.slot))
    (sym (first_due-book (seen_of c) c.books.timers.timers c.control.last kept.own kept.booked.armed)) ∙ none) where
      by_case : (o : Option Timer) → option_map (λ (t : armed.Timer). t.slot) (option_map (timer_of (seen_of c)) o) ≡ None → o ≡ None
      by_case None e = refl
      by_case (Some t) e = cc

module _ (old new : HostParts) (before after : List SentFrame) (kept : IsKept old) where
  resend : 1 ≤ old.control.settings.resend
  resend = kept.control.valid.in_range.2.2.2.2.2.2.0

  all_acted : (w v : Work) → v ≡ picked_anew old.control.settings 32 w → Amid v new after → Amid (acts old.control.settings w) new after
  all_acted w v e amid = subst (λ (u : Work). Amid u new after) (e ∙ sym (acts-picked old.control.settings resend w)) amid

  -- the turn ends where none is due
  pub turned_early : (n : ℕ) → new.control.settings ≡ old.control.settings → IsTurning old before new after n
      → first_of (due timer_key new.control.last (timers new.control.settings (host_of new))) ≡ None
      → (w : Work) → Amid w old before → Amid (acts old.control.settings w) new after
  turned_early n settings turning none w amid =
      let t = turning w amid in
      let none_there : first_of (due timer_key (now_of t.0) (timers old.control.settings t.0.host)) ≡ None =
      (λ i. first_of (due timer_key (sym t.1.host i).last (timers (sym settings i) (sym t.1.host i)))) ∙ none in
      all_acted w t.0 (sym (picked_none old.control.settings n t.0 none_there) ∙ t.2) t.1

  -- and where all that may have acted
  pub turned : IsTurning old before new after 0 → (w : Work) → Amid w old before → Amid (acts old.control.settings w) new after
  unfolding picked_anew
  turned turning w amid = let t = turning w amid in all_acted w t.0 t.2 t.1
