-- How a write of a text ends.
use Rattle.std.specs.Prelude.{◌≡◌, ◌≤◌, ℕ, Option, List, Result, OnOk, OnErr}
use Rattle.homa_io.specs.Outside.{HasRisen, appended, TookFront}

module _ {K A E : Type 0} (taken : K → Option (List ℕ)) (faults : K → ℕ) (is_same : K → K → Type 0) where
  -- the write went well and this holds, or it failed after a prefix of the text; only a failure counts a fault,
  -- and the sink is the same one
  pub record WriteEnds (r : Result A E) (old new : K) (text : List ℕ) (done : Type 0) : Type 0 where
    pub ok : OnOk r done
    pub err : OnErr r (TookFront (taken old) (taken new) text)
    pub risen : OnErr r (HasRisen (faults old) (faults new))
    pub quiet : OnOk r (faults new ≡ faults old)
    pub never_falls : faults old ≤ faults new
    pub same : is_same old new

  -- if the write went well, the sink took all of the text
  abbrev pub IsWritten : Result A E → K → K → List ℕ → Type 0
  IsWritten r old new text = WriteEnds r old new text (taken new ≡ appended (taken old) text)
