-- What an observer does with the reports of a run, one after the other.
use Rattle.std.specs.Prelude.{Bool, true, false, if◌then◌else◌, List, [], ◌∷◌, ◌++◌}
use Rattle.node_runs.specs.Course.{Report}
use Rattle.node_runs.specs.Recorder.{Notes}

-- what was printed of reports, and whether the last of them was of a foreign datagram
pub record Observed (A : Type 0) : Type 0 where
  pub told : List A
  pub is_cut : Bool

-- what is printed first, and then the rest
abbrev pub behind : {A : Type 0} → List A → Observed A → Observed A
behind first rest = record rest { told = first ++ rest.told }

-- prints the reports up to the first of a foreign datagram, and that one too
unfoldable pub observed : {A : Type 0} → (Notes → Report → List A) → (Notes → Report → Notes) → (Notes → Report → Bool) → Notes → List Report → Observed A
observed told kept strange notes [] = record { told = []; is_cut = false }
observed told kept strange notes (report ∷ reports) =
    if strange notes report then record { told = told notes report; is_cut = true }
    else behind (told notes report) (observed told kept strange (kept notes report) reports)

-- no report is of a foreign datagram
abbrev pub never : Notes → Report → Bool
never notes report = false

-- the notes stay as they are
abbrev pub same_notes : Notes → Report → Notes
same_notes notes report = notes
