-- How many events a schedule has.
use Rattle.std.specs.Prelude.{◌≡◌, ℕ, ◌+◌, Option, None, Some, Result, Ok, Err, List, [], ◌∷◌}
use Rattle.homa_plain.specs.Script.{Given, GivenEvent, GivenTicks, Refusal, Step, Steps, Opening, Opened, Unopened}
use Rattle.script_lines.specs.declared.stop.ScriptStop.{ScriptStop}
use Rattle.script_lines.specs.declared.stop.ScriptStop.TheVariants.{Read, Fault}

-- how many events a line stands for: `tick N` counts as N
abbrev pub events_in : Given → ℕ
events_in (GivenEvent event bytes) = 1
events_in (GivenTicks n) = n

-- how many events these lines stand for
abbrev pub events_of : List Step → ℕ
events_of [] = 0
events_of (step ∷ steps) = events_in step.given + events_of steps

-- a number, or the refusal if there is one
abbrev pub unless_refused : Option Refusal → ℕ → Result ℕ Refusal
unless_refused None n = Ok n
unless_refused (Some refusal) n = Err refusal

-- the number of events behind `go`, or the first refusal
abbrev pub count_steps : Steps → Result ℕ Refusal
count_steps steps = unless_refused steps.refused (events_of steps.steps)

-- the number of events, or the first refusal
abbrev pub count_of : Opening → Result ℕ Refusal
count_of (Opened settings steps) = count_steps steps
count_of (Unopened refusal) = Err refusal

-- why counting stopped in this line
abbrev pub IsStop : Result ℕ Refusal → ℕ → ScriptStop → Type 0
IsStop count line (Read failed) = Unit {0}
IsStop count line (Fault fault) = count ≡ Err (record { line = line; fault = fault })
