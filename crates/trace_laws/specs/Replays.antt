-- The replays of which the laws speak.
use Rattle.std.specs.Prelude.{◌≡◌, ◌≤◌, ℕ, Bool, true, false, List}
use Rattle.std.specs.List.{flat_map}
use Rattle.homa_plain.specs.Script.{Step, Opening, Opened, Unopened, opening, most_bytes}
use Rattle.homa_plain.specs.Entries.{PlainEntry}
use Rattle.homa_plain.specs.Rules.{Answer}
use Rattle.homa_plain.specs.Replay.{Happening, events_of, replay, lines}
use Rattle.trace_steps.specs.Always.{last_incarnation}

-- whether a world is opened
abbrev pub is_opened : Opening → Bool
is_opened (Opened s steps) = true
is_opened (Unopened refusal) = false

-- the schedule comes to its `go`, where its settings are valid, so that a world is opened
abbrev pub OpensWorld : List ℕ → Type 0
OpensWorld bytes = is_opened (opening most_bytes bytes) ≡ true

-- all events of these lines, one line behind the other
abbrev pub events_in : ℕ → List Step → List Happening
events_in hosts steps = flat_map (λ (step : Step). events_of hosts step.given) steps

-- it is so of the lines of each replay that opens a world with no more boxes than there are incarnations, whatever the services answer
abbrev pub OfEveryReplay : (List PlainEntry → Type 0) → Type 0
OfEveryReplay so = (bytes : List ℕ) (answers : List Answer) (boxes : ℕ) → OpensWorld bytes → boxes ≤ last_incarnation → so (lines (replay bytes answers boxes))
