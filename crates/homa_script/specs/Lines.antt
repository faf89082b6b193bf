-- What the next line of a schedule with words is.
use Rattle.std.specs.Prelude.{ℕ, ◌+◌, ◌≤◌, Option, None, Some, Result, Ok, Err, List}
use Rattle.script_lines.specs.declared.stop.ScriptStop.{ScriptStop}
use Rattle.script_lines.specs.declared.stop.ScriptStop.TheVariants.{Read, Fault}
use Rattle.script_lines.specs.Place.{Place, IsCounted}
use Rattle.script_lines.specs.Read.{IsRead, IsCut}
use Rattle.homa_script.specs.declared.event.Given.{Given}
use Rattle.homa_script.specs.Given.{given_seen}
use Rattle.homa_script.specs.Steps.{steps_left, step_first, refused_at}
use Rattle.homa_script.specs.Script.{IsLast}

-- what the next event is, whose bytes stand in front of `out`
abbrev pub IsNextGiven : Place → Place → List ℕ → List ℕ → Option (List ℕ) → Result (Option Given) ScriptStop → Type 0
IsNextGiven old new out bytes left (Ok None) = IsLast old bytes left
IsNextGiven old new out bytes left (Ok (Some given)) =
    IsRead bytes left (steps_left old) (λ more. step_first (record { line = new.number; given = given_seen given out }) (steps_left new more))
IsNextGiven old new out bytes left (Err (Read failed)) = IsCut bytes left
IsNextGiven old new out bytes left (Err (Fault fault)) = IsRead bytes left (steps_left old) (λ more. refused_at new.number fault)

-- a line came with it, of two bytes at least
abbrev pub IsGivenOn : Place → Place → Option Given → Type 0
IsGivenOn old new None = Unit {0}
IsGivenOn old new (Some given) = IsCounted new × (old.read + 2 ≤ new.read)
