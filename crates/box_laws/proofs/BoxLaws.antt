-- What the boxes may tell, over the lines of a step.
use Rattle.std.proofs.Common.{◌≡◌, ℕ, suc, true, false, Option, List, [], ◌∷◌, ◌++◌}
use Rattle.std.specs.List.{AllByRecursion}
use Rattle.homa_plain.specs.Entries.{PlainEntry, PlainRun, PlainRestart}
use Rattle.homa_plain.specs.Host.{Told, Says, Sends, entries_from}
use Rattle.homa_plain.specs.Steps.{has_run}
use Rattle.event_laws.specs.Named.{IsOfStep}
use Rattle.box_laws.specs.Boxes.{Allows, may_tell}

module _ {A : Type 0} (allows : Allows A) (spares : List (A × ℕ)) where
  -- lines without an answer and without a restart
  pub quiet_tell : (seats : List (Option (A × ℕ))) (n : ℕ) (told : List Told) (more : List PlainEntry) → AllByRecursion IsOfStep told
      → has_run told ≡ false → may_tell allows seats spares more → may_tell allows seats spares (entries_from n told ++ more)
  quiet_tell seats n [] more own e may = may
  quiet_tell seats n (Sends p ∷ told) more own e may = (tt, quiet_tell seats (suc n) told more own.1 e may)
  quiet_tell seats n (Says entry ∷ told) more own e may = by_entry entry own.0 e (λ f. quiet_tell seats n told more own.1 f may) where
    by_entry : (entry : PlainEntry) → IsOfStep (Says entry) → has_run (Says entry ∷ told) ≡ false
        → (has_run told ≡ false → may_tell allows seats spares (entries_from n told ++ more))
        → may_tell allows seats spares (entry ∷ (entries_from n told ++ more))
    by_entry (PlainRun host id service request response hold) o e rest = absurd (no e) where
      no : true ≡ false → ⊥
      no e = cc
    by_entry (PlainRestart host inc) o e rest = absurd o
    by_entry entry o e rest = (tt, rest e)
