-- The text of an experiment.
use Rattle.std.specs.Prelude.{◌≡◌, ℕ, suc, ◌+◌, Bool, true, false, ◌||◌, if◌then◌else◌, Option, Result, Ok, Err, List, [], ◌∷◌, length}
use Rattle.homa_plain.specs.declared.fault.ScriptFault.{ScriptFault}
use Rattle.homa_plain.specs.Input.{lines_of, words_of}
use Rattle.text_lines.specs.Lines.{Reading}
use Rattle.script_lines.specs.Place.{Place}
use Rattle.script_lines.specs.Lines.{text_in, IsNextLine, IsRefused, IsNumbered}
use Rattle.experiment.specs.declared.fault.Refusal.{Refusal}
use Rattle.experiment.specs.declared.fault.Wrong.{Wrong}
use Rattle.experiment.specs.declared.fault.Wrong.TheVariants.{Unreadable, Nothing}
use Rattle.experiment.specs.declared.fault.ExperimentFault.{ExperimentFault}
use Rattle.experiment.specs.declared.fault.ExperimentFault.TheVariants.{Read, NoMemory, Said}
use Rattle.experiment.specs.declared.statement.Statement.{Statement}
use Rattle.experiment.specs.declared.statement.Statement.TheVariants as line
use Rattle.experiment.specs.declared.trial.Experiment.{Experiment}
use Rattle.experiment.specs.Grammar.{◌>>=◌, line_of}
use Rattle.experiment.specs.Drafts.{Drafting, after}
use Rattle.experiment.specs.Made.{nothing_said, checked, IsMade}

-- a line isn't blank
abbrev pub says : Statement → Bool
says line.Blank = false
says (line.Setting name n) = true
says (line.Amount amount n) = true
says (line.Workload n) = true
says (line.Size upto share) = true
says (line.Length upto share) = true
says (line.Cumulative upto sum) = true
says (line.Card card) = true
says (line.Hot hot) = true
says (line.Restart restart) = true
says (line.Call call) = true
says (line.Inject injection) = true
says (line.Shift shift) = true

-- what is wrong in a line, as a fault
abbrev pub fault_at : ℕ → Refusal → ExperimentFault
fault_at n refusal = Said n refusal.word refusal.wrong

-- the next line is refused by what it is made of
abbrev pub IsUnread : Reading → Reading → List ℕ → Option (List ℕ) → (n word : ℕ) → Wrong → Type 0
IsUnread old new bytes left n word (Unreadable fault) = IsRefused old bytes left fault × (n ≡ new.number) × (word ≡ 1)
IsUnread old new bytes left n word _ = ⊥

-- what the next line is, or the fault of that line
abbrev pub IsNextText : Reading → Reading → List ℕ → Option (List ℕ) → Result Bool ExperimentFault → Type 0
IsNextText old new bytes left (Ok there) = IsNextLine old new bytes left (Ok there)
IsNextText old new bytes left (Err Read) = Unit {0}
IsNextText old new bytes left (Err NoMemory) = ⊥
IsNextText old new bytes left (Err (Said n word what)) = IsUnread old new bytes left n word what

-- the number of the next line, and how many bytes came with it
abbrev pub IsTextNumbered : Place → Place → Result Bool ExperimentFault → Type 0
IsTextNumbered old new (Ok there) = IsNumbered old new (Ok there)
IsTextNumbered old new (Err Read) = Unit {0}
IsTextNumbered old new (Err NoMemory) = Unit {0}
IsTextNumbered old new (Err (Said n word what)) = new.number ≡ old.number + 1

-- what was said after line n, and whether that line says something
abbrev pub line_after : Drafting → ℕ → Result Statement Refusal → Result (Drafting × Bool) Refusal
line_after d n (Err refusal) = Err refusal
line_after d n (Ok l) = after d n l >>= λ e. Ok (e, says l)

-- the same, or a fault of line n
abbrev pub faulted : ℕ → Result (Drafting × Bool) Refusal → Result (Drafting × Bool) ExperimentFault
faulted n (Ok a) = Ok a
faulted n (Err refusal) = Err (fault_at n refusal)

abbrev pub text_after : Drafting → ℕ → Result (List ℕ) ScriptFault → Result (Drafting × Bool) ExperimentFault
text_after d n (Err fault) = Err (Said n 1 (Unreadable fault))
text_after d n (Ok text) = faulted n (line_after d n (line_of n (words_of text)))

-- what was said at the end of a text of n - 1 lines, if one of them says something
abbrev pub at_end : ℕ → Bool → Drafting → Result Drafting ExperimentFault
at_end n any d = if any then Ok d else Err (Said n 1 Nothing)

-- the lines from line n on, in a text of at most so many bytes of which `read` come before that line
unfoldable pub said_from : (limit read n : ℕ) → Bool → Drafting → List (List ℕ) → Result Drafting ExperimentFault
said_from limit read n any d [] = at_end n any d
said_from limit read n any d (l ∷ lines) =
    elim (text_after d n (text_in limit read l)) [
      | Err fault ↦ Err fault
      | Ok a ↦ said_from limit (read + length l) (suc n) (any || a.1) a.0 lines
    ]

-- what a text of at most 2^32 bytes says
unfoldable pub said_by : List ℕ → Result Drafting ExperimentFault
said_by bytes = said_from 4294967296 0 1 false nothing_said (lines_of bytes)

-- the same, if it fits together
abbrev pub fit_by : Drafting → Result (Unit {0}) ExperimentFault → Result Drafting ExperimentFault
fit_by d (Ok fits) = Ok d
fit_by d (Err fault) = Err fault

abbrev pub fit : Result Drafting ExperimentFault → Result Drafting ExperimentFault
fit (Ok d) = fit_by d (checked d)
fit (Err fault) = Err fault

-- the experiment of a text, or what is wrong with it
abbrev pub experiment_of : List ℕ → Result Drafting ExperimentFault
experiment_of bytes = fit (said_by bytes)

-- a line was taken
abbrev pub IsLineTaken : Result (Drafting × Bool) Refusal → ℕ → Result Bool ExperimentFault → Drafting → Type 0
IsLineTaken due n (Ok any) new = due ≡ Ok (new, any)
IsLineTaken due n (Err Read) new = ⊥
IsLineTaken due n (Err NoMemory) new = Unit {0}
IsLineTaken due n (Err (Said l word what)) new = (l ≡ n) × (due ≡ Err (record { word = word; wrong = what }))

-- an experiment, or a fault, is that of a text; without memory, or where the source fails, nothing is said of it
abbrev pub IsExperimentOf : List ℕ → Result Experiment ExperimentFault → Type 0
IsExperimentOf bytes (Ok e) = (d : Drafting) × (experiment_of bytes ≡ Ok d) × IsMade d e
IsExperimentOf bytes (Err Read) = Unit {0}
IsExperimentOf bytes (Err NoMemory) = Unit {0}
IsExperimentOf bytes (Err (Said l word what)) = experiment_of bytes ≡ Err (Said l word what)
