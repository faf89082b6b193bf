-- The words of a command line.
use Rattle.std.specs.Prelude.{ℕ, ◌+◌, Bool, true, false, ◌&&◌, not, if◌then◌else◌, Option, None, Some, is_some, Result, Ok, Err, List, [], ◌∷◌, codes}
use Rattle.std.specs.Str.{bytes_eq}
use denote.Ref.{Bor}
use Rattle.simulate.specs.declared.words.Report.{Report}
use Rattle.simulate.specs.declared.words.Report.TheVariants.{Summary, Figures, Totals, Calls, Schedule}
use Rattle.simulate.specs.declared.words.Format.{Format}
use Rattle.simulate.specs.declared.words.Format.TheVariants.{Csv, Json}
use Rattle.simulate.specs.declared.words.WordFault.TheVariants.{Missing, Unknown, Twice, NoColumns}
use Rattle.simulate.specs.declared.words.CommandLine.{CommandLine}
use Rattle.simulate.specs.declared.words.CommandLine.TheVariants.{Help, Ask, Wrong}
use Rattle.simulate.specs.declared.words.Meaning.{Meaning}
use Rattle.simulate.specs.declared.words.Meaning.TheVariants as means
use Rattle.simulate.specs.declared.words.WordsSoFar.{WordsSoFar}

-- what a word says, if it is one of those that there are
abbrev pub meaning_of : List ℕ → Option Meaning
meaning_of word =
    if bytes_eq word (codes "summary") then Some (means.Print Summary)
    else if bytes_eq word (codes "figures") then Some (means.Print Figures)
    else if bytes_eq word (codes "totals") then Some (means.Print Totals)
    else if bytes_eq word (codes "calls") then Some (means.Print Calls)
    else if bytes_eq word (codes "schedule") then Some (means.Print Schedule)
    else if bytes_eq word (codes "--json") then Some means.Json
    else if bytes_eq word (codes "--progress") then Some means.Progress
    else if bytes_eq word (codes "--help") then Some means.Help
    else None

-- no word was read
abbrev pub nothing_said : WordsSoFar
nothing_said = record { report = None; is_json = false; tells_progress = false }

-- whether a report has columns
abbrev pub has_columns : Report → Bool
has_columns Summary = false
has_columns Figures = true
has_columns Totals = true
has_columns Calls = true
has_columns Schedule = false

-- the form of lines
abbrev pub form_of : Bool → Format
form_of is_json = if is_json then Json else Csv

-- what is asked where this report was said
abbrev pub asked_for : WordsSoFar → Report → CommandLine
asked_for said report =
    if said.is_json && not (has_columns report) then Wrong NoColumns
    else Ask (record { report = report; format = form_of said.is_json; tells_progress = said.tells_progress })

-- what is asked where this was said
abbrev pub answer_to : WordsSoFar → CommandLine
answer_to said = elim (said.report) [ None ↦ Wrong Missing | Some report ↦ asked_for said report ]

-- what is said with one word more, or that the one behind so many words ends the command line
abbrev pub step : WordsSoFar → ℕ → Option Meaning → Result WordsSoFar CommandLine
step said at None = Err (Wrong (Unknown at))
step said at (Some means.Help) = Err Help
step said at (Some means.Json) = if said.is_json then Err (Wrong (Twice at)) else Ok (record said { is_json = true })
step said at (Some means.Progress) = if said.tells_progress then Err (Wrong (Twice at)) else Ok (record said { tells_progress = true })
step said at (Some (means.Print report)) =
    if is_some said.report then Err (Wrong (Twice at)) else Ok (record said { report = Some report })

-- what words say behind so many others, which said this
abbrev pub read_on : WordsSoFar → ℕ → List (Bor (List ℕ)) → CommandLine
read_on said at [] = answer_to said
read_on said at (word ∷ words) = elim (step said at (meaning_of word.now)) [ Err answer ↦ answer | Ok next ↦ read_on next (at + 1) words ]

-- what a command line says
abbrev pub command_line : List (Bor (List ℕ)) → CommandLine
command_line words = read_on nothing_said 0 words
