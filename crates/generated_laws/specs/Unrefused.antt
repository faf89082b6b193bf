-- A generated run of which no event is refused.
use Rattle.std.specs.Prelude.{◌≡◌, ◌<◌, ◌≤◌, ℕ, suc, None, List, [], ◌∷◌, length, replicate}
use Rattle.std.specs.List.{flat_map}
use Rattle.homa_plain.specs.declared.settings.Settings.{Settings}
use Rattle.homa_plain.specs.declared.event.Event.TheVariants as event
use Rattle.homa_plain.specs.Script.{Given, GivenEvent, GivenTicks, Step, counting}
use Rattle.homa_plain.specs.Rules.{Answer}
use Rattle.homa_plain.specs.World.{World, new_world}
use Rattle.homa_plain.specs.Replay.{Finished, carried, events_of, replayed, replay}
use Rattle.homa_plain.specs.Entries.{PlainSettings}
use Rattle.generated_runs.specs.Rounds.{Generated}
use Rattle.generated_runs.specs.Generated.{generated_settings, schedule_text}
use Rattle.homa_plain.specs.Limits.{longest_message}

-- the world with which a run begins
abbrev pub first_world : Settings → ℕ → List Answer → World
first_world s boxes answers = new_world s (replicate s.hosts 1) 0 boxes answers

-- the lines of a schedule behind `go`, the first of which has this number
abbrev pub steps_of : ℕ → List Given → List Step
steps_of line [] = []
steps_of line (given ∷ rest) = record { line = line; given = given } ∷ steps_of (suc line) rest

-- The events of its lines, one after the other from the world with which it began, make the world of the run and tell
-- what it told. The replay of its lines tells just this and comes to their end.
pub record IsUnrefused (s : Settings) (first : World) (g : Generated) : Type 0 where
  pub world : (carried s first (flat_map (events_of s.hosts) g.lines)).world ≡ g.world
  pub told : (carried s first (flat_map (events_of s.hosts) g.lines)).told ≡ g.told
  pub none : (carried s first (flat_map (events_of s.hosts) g.lines)).fault ≡ None
  pub events : ℕ
  pub replays : (line : ℕ) → replayed s first 0 (steps_of line g.lines) None ≡ record { told = g.told; end = Finished events }

-- a line of a run's schedule: one tick, one of so many packets that is delivered, or a call between so many hosts with counting bytes
abbrev pub IsRunLine : ℕ → ℕ → Given → Type 0
IsRunLine hosts packets (GivenTicks n) = n ≡ 1
IsRunLine hosts packets (GivenEvent (event.Deliver number) bytes) = (number < packets) × (bytes ≡ [])
IsRunLine hosts packets (GivenEvent (event.Call client server service) bytes) =
    (client.0 < hosts) × (server.0 < hosts) × (service < 4) × (length bytes ≤ longest_message) × (bytes ≡ counting 0 (length bytes))
IsRunLine hosts packets (GivenEvent other bytes) = ⊥

-- The replay of the schedule that is printed tells what the run told, behind its settings, and comes to the schedule's end.
pub record IsReplayed (answers : List Answer) (boxes : ℕ) (g : Generated) : Type 0 where
  pub events : ℕ
  pub is : replay (schedule_text generated_settings g) answers boxes ≡ record { told = PlainSettings generated_settings ∷ g.told; end = Finished events }
