-- What the reader of a node script answers.
use Rattle.std.specs.Prelude.{◌≡◌, ℕ, ◌+◌, ◌≤◌, Option, None, Some, Result, Ok, Err, List, []}
use Rattle.homa_plain.specs.declared.fault.LineFault.{LineFault}
use Rattle.node_runs.specs.Script as script
use Rattle.node_runs.specs.Script.{Calls, calls_from, with_call, opening, Opened, unopened}
use Rattle.script_lines.specs.Place.{Place, IsCounted, lines_left}
use Rattle.script_lines.specs.Read.{IsRead, IsCut}
use Rattle.node_script.specs.declared.setup.Setup.{Setup}
use Rattle.node_script.specs.declared.stop.SetupStop.{SetupStop}
use Rattle.node_script.specs.declared.stop.SetupStop.TheVariants as setup
use Rattle.node_script.specs.declared.stop.CallStop.{CallStop}
use Rattle.node_script.specs.declared.stop.CallStop.TheVariants as call
use Rattle.node_script.specs.declared.timed.TimedCall.{TimedCall}
use Rattle.node_script.specs.Setup.{call_seen}
use Rattle.node_script.specs.Heads.{setup_seen}

-- the calls that are left, where these bytes still come, and no tick may be below `least`
abbrev pub calls_left : script.Setup → ℕ → Place → List ℕ → Calls
calls_left s least place more = calls_from place.limit s place.read (place.number + 1) least (lines_left place more)

-- the input ends
abbrev pub no_calls : Calls
no_calls = record { calls = []; refused = None }

-- the next line with words is refused
abbrev pub refused_at : ℕ → LineFault → Calls
refused_at n fault = record { calls = []; refused = Some (record { line = n; fault = fault }) }

-- what the definition says of the bytes of a script, where `setup` gives this
abbrev pub IsOpening : ℕ → Place → List ℕ → Option (List ℕ) → Result Setup SetupStop → Type 0
IsOpening limit new bytes left (Ok s) = IsRead bytes left (opening limit) (λ more. Opened (setup_seen s) (calls_left (setup_seen s) 0 new more))
IsOpening limit new bytes left (Err setup.NoMemory) = IsCut bytes left
IsOpening limit new bytes left (Err (setup.Read failed)) = IsCut bytes left
IsOpening limit new bytes left (Err (setup.Fault fault)) = IsRead bytes left (opening limit) (λ more. unopened new.number fault)

-- no call is left, and no byte
abbrev pub IsLast : script.Setup → ℕ → Place → List ℕ → Option (List ℕ) → Type 0
IsLast s least old bytes left = IsRead bytes left (calls_left s least old) (λ more. no_calls) × (left ≡ Some [])

-- what it says of the bytes behind `go`, where `next_call` gives this, with the request in front of these bytes
abbrev pub IsNext : script.Setup → ℕ → Place → Place → List ℕ → List ℕ → Option (List ℕ) → Result (Option TimedCall) CallStop → Type 0
IsNext s least old new out bytes left (Ok None) = IsLast s least old bytes left
IsNext s least old new out bytes left (Ok (Some c)) =
    IsRead bytes left (calls_left s least old) (λ more. with_call (call_seen c out) (calls_left s c.tick new more))
IsNext s least old new out bytes left (Err (call.Read failed)) = IsCut bytes left
IsNext s least old new out bytes left (Err (call.Fault fault)) = IsRead bytes left (calls_left s least old) (λ more. refused_at new.number fault)

-- a line came with a call, of two bytes at least
abbrev pub IsOn : Place → Place → Option TimedCall → Type 0
IsOn old new None = Unit {0}
IsOn old new (Some c) = IsCounted new × (old.read + 2 ≤ new.read)
