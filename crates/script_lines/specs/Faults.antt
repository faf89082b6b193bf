-- Which faults of a source a reader meets.
use Rattle.std.specs.Prelude.{◌≡◌, ◌≤◌, ℕ, Bool, true, false}
use Rattle.homa_io.specs.Outside.{HasRisen}

-- the source counts a fault if a read failed, and none otherwise; it is the same source
pub record CountsFaults {S : Type 0} (faults : S → ℕ) (is_same : S → S → Type 0) (failed : Bool) (old new : S) : Type 0 where
  pub risen : failed ≡ true → HasRisen (faults old) (faults new)
  pub quiet : failed ≡ false → faults new ≡ faults old
  pub never_falls : faults old ≤ faults new
  pub same : is_same old new
