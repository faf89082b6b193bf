-- What a reader of schedules has, and what it answers.
use Rattle.std.specs.Prelude.{◌≡◌, ℕ, ◌+◌, ◌≤◌, Bool, true, false, Option, None, Some, Result, Ok, Err, List, []}
use Rattle.homa_plain.specs.declared.settings.Settings.{Settings}
use Rattle.homa_plain.specs.Script.{GivenEvent, GivenTicks, Opened, Unopened, opening}
use Rattle.script_lines.specs.declared.stop.ScriptStop.{ScriptStop}
use Rattle.script_lines.specs.declared.stop.ScriptStop.TheVariants.{Read, Fault}
use Rattle.script_lines.specs.Place.{Place, IsCounted, first_place}
use Rattle.script_lines.specs.Read.{IsRead, IsCut}
use Rattle.homa_script.specs.declared.next.Next.{Next}
use Rattle.homa_script.specs.declared.next.Next.TheVariants.{Event, Ticks, End}
use Rattle.homa_script.specs.Steps.{steps_left, step_first, no_steps, refused_at}

-- where a reader stands, the bytes beside the last event, whether `settings` was called, whether the end was answered, and its first stop
pub record Script : Type 0 where
  pub place : Place
  pub operand : List ℕ
  pub started : Bool
  pub ended : Bool
  pub stopped : Option ScriptStop

-- a reader that is opened for an input of so many bytes
abbrev pub opened : ℕ → Script
opened limit = record { place = first_place limit; operand = []; started = false; ended = false; stopped = None }

-- what the definition of a schedule says of the bytes, where `settings` gives this
abbrev pub IsOpening : ℕ → Place → List ℕ → Option (List ℕ) → Result Settings ScriptStop → Type 0
IsOpening limit new bytes left (Ok settings) = IsRead bytes left (opening limit) (λ more. Opened settings (steps_left new more))
IsOpening limit new bytes left (Err (Read failed)) = IsCut bytes left
IsOpening limit new bytes left (Err (Fault fault)) = IsRead bytes left (opening limit) (λ more. Unopened (record { line = new.number; fault = fault }))

-- the reader is at the end: the rest of the input has no step, and all of it was read
abbrev pub IsLast : Place → List ℕ → Option (List ℕ) → Type 0
IsLast old bytes left = IsRead bytes left (steps_left old) (λ more. no_steps) × (left ≡ Some [])

-- what the definition of a schedule says of the bytes, where `next` gives this and these bytes stand beside it
abbrev pub IsNext : Place → Place → List ℕ → List ℕ → Option (List ℕ) → Result Next ScriptStop → Type 0
IsNext old new operand bytes left (Ok (Event event)) =
    IsRead bytes left (steps_left old) (λ more. step_first (record { line = new.number; given = GivenEvent event operand }) (steps_left new more))
IsNext old new operand bytes left (Ok (Ticks n)) =
    IsRead bytes left (steps_left old) (λ more. step_first (record { line = new.number; given = GivenTicks n }) (steps_left new more))
IsNext old new operand bytes left (Ok End) = IsLast old bytes left
IsNext old new operand bytes left (Err (Read failed)) = IsCut bytes left
IsNext old new operand bytes left (Err (Fault fault)) = IsRead bytes left (steps_left old) (λ more. refused_at new.number fault)

-- bytes stand beside events alone
abbrev pub has_operand : Result Next ScriptStop → Bool
has_operand (Ok (Event event)) = true
has_operand (Ok (Ticks n)) = false
has_operand (Ok End) = false
has_operand (Err stop) = false

-- the end was answered
abbrev pub is_end : Result Next ScriptStop → Bool
is_end (Ok (Event event)) = false
is_end (Ok (Ticks n)) = false
is_end (Ok End) = true
is_end (Err stop) = false

-- ticks are 1 to 100,000
abbrev pub IsInRange : Next → Type 0
IsInRange (Event event) = Unit {0}
IsInRange (Ticks n) = (1 ≤ n) × (n ≤ 100000)
IsInRange End = Unit {0}

-- a line came, of two bytes at least, if it isn't the end
abbrev pub IsOn : Place → Place → Next → Type 0
IsOn old new (Event event) = IsCounted new × (old.read + 2 ≤ new.read)
IsOn old new (Ticks n) = IsCounted new × (old.read + 2 ≤ new.read)
IsOn old new End = Unit {0}
