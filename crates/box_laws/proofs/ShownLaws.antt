-- The answers that a step's lines show, and what the boxes may tell.
use Rattle.std.proofs.Common.{◌≡◌, ◌≤◌, ℕ, suc, true, false, cond, List, [], ◌∷◌, refl, ap, ◌∙◌, arith}
use Rattle.std.specs.Prelude.{Contains}
use Rattle.std.specs.List.{AllByRecursion}
use Rattle.plain_sets.proofs.OrderFirst.{all_from}
use Rattle.homa_plain.specs.declared.id.CallId.{CallId}
use Rattle.homa_plain.specs.declared.id.HostId.{HostId}
use Rattle.homa_plain.specs.Entries.{PlainEntry, PlainRun}
use Rattle.homa_plain.specs.Host.{Told, Says, Sends, entries_from}
use Rattle.homa_plain.specs.Rules.{Answer}
use Rattle.homa_plain.specs.Steps.{has_run}
use Rattle.step_laws.specs.StepLaws.{run_count}
use Rattle.homa_plain.specs.Answers.{shown}

-- where no service was asked, no answer is shown
pub none_shown : (n : ℕ) (told : List Told) → has_run told ≡ false → shown (entries_from n told) ≡ []
none_shown n [] e = refl
none_shown n (Sends p ∷ told) e = none_shown (suc n) told e
none_shown n (Says entry ∷ told) e = by_entry entry e (λ f. none_shown n told f) where
  by_entry : (entry : PlainEntry) → has_run (Says entry ∷ told) ≡ false → (has_run told ≡ false → shown (entries_from n told) ≡ [])
      → shown (entry ∷ entries_from n told) ≡ []
  by_entry (PlainRun host id service request response hold) e rest = absurd (no e) where
    no : true ≡ false → ⊥
    no e = cc
  by_entry entry e rest = rest e

quiet : (told : List Told) → run_count told ≡ 0 → has_run told ≡ false
quiet [] e = refl
quiet (Sends p ∷ told) e = quiet told e
quiet (Says entry ∷ told) e = by_line entry e (λ f. quiet told f) where
  by_line : (entry : PlainEntry) → run_count (Says entry ∷ told) ≡ 0 → (run_count told ≡ 0 → has_run told ≡ false) → has_run (Says entry ∷ told) ≡ false
  by_line (PlainRun host id service request response hold) e rest = absurd (omega (arith, e))
  by_line entry e rest = rest e

-- a `run` line shows this answer
abbrev pub Shows : Answer → Told → Type 0
Shows a (Says (PlainRun host id service request response hold)) = (response ≡ a.bytes) × (hold ≡ a.hold)
Shows a told = Unit {0}

-- where it was asked once, its answer is
pub one_shown : (n : ℕ) (told : List Told) (a : Answer) → run_count told ≤ 1 → AllByRecursion (Shows a) told
    → shown (entries_from n told) ≡ cond (has_run told) (a ∷ []) []
one_shown n [] a l all = refl
one_shown n (Sends p ∷ told) a l all = one_shown (suc n) told a l all.1
one_shown n (Says entry ∷ told) a l all = by_entry entry l all.0 (λ m. one_shown n told a m all.1) where
  by_entry : (entry : PlainEntry) → run_count (Says entry ∷ told) ≤ 1 → Shows a (Says entry)
      → (run_count told ≤ 1 → shown (entries_from n told) ≡ cond (has_run told) (a ∷ []) [])
      → shown (entry ∷ entries_from n told) ≡ cond (has_run (Says entry ∷ told)) (a ∷ []) []
  by_entry (PlainRun host id service request response hold) l one rest =
      ap (λ more. record { bytes = response; hold = hold } ∷ more) (none_shown n told (quiet told (omega (arith, l))))
      ∙ ap (λ b. record { bytes = b; hold = hold } ∷ []) one.0 ∙ ap (λ h. record { bytes = a.bytes; hold = h } ∷ []) one.1
  by_entry entry l one rest = rest l

-- what each `run` line that is told shows
pub all_show : (a : Answer) (told : List Told)
    → ((host : HostId) (id : CallId) (service : ℕ) (request response : List ℕ) (hold : ℕ) → Contains told
    (Says (PlainRun host id service request response hold)) → (response ≡ a.bytes) × (hold ≡ a.hold))
    → AllByRecursion (Shows a) told
all_show a told each = all_from (Shows a) told (λ t c. by_told t c) where
  by_told : (t : Told) → Contains told t → Shows a t
  by_told (Sends p) c = tt
  by_told (Says entry) c = by_entry entry c where
    by_entry : (entry : PlainEntry) → Contains told (Says entry) → Shows a (Says entry)
    by_entry (PlainRun host id service request response hold) c = each host id service request response hold c
    by_entry entry c = tt
