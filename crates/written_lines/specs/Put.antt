-- What is written and what is held of a text.
use Rattle.std.specs.Prelude.{◌≡◌, ℕ, Option, List, ◌++◌, Result}
use Rattle.homa_io.specs.Outside.{appended}
use Rattle.homa_io.specs.Writing.{WriteEnds}

-- of a text, a prefix was written and the rest is held
pub record IsPut (old new : Option (List ℕ)) (held whole : List ℕ) : Type 0 where
  pub written : List ℕ
  pub taken : new ≡ appended old written
  pub text : written ++ held ≡ whole

-- if it went well, a prefix of the text was written and the rest is held
abbrev pub Puts : {K A E : Type 0} → (K → Option (List ℕ)) → (K → ℕ) → (K → K → Type 0) → Result A E → K → K → List ℕ → List ℕ → Type 0
Puts taken faults is_same r old new held whole = WriteEnds taken faults is_same r old new whole (IsPut (taken old) (taken new) held whole)
