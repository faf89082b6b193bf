-- What the replay of a schedule prints: from its bytes, what the services answer and the number of boxes, to the text.
use Rattle.std.specs.Prelude.{ℕ, zero, suc, ◌+◌, Option, None, Some, List, [], ◌∷◌, ◌++◌, replicate}
use Rattle.std.specs.List.{flat_map}
use Rattle.homa_plain.specs.declared.settings.Settings.{Settings}
use Rattle.homa_plain.specs.declared.event.Event.{Event}
use Rattle.homa_plain.specs.declared.event.Event.TheVariants as event
use Rattle.homa_plain.specs.declared.fault.LineFault.{LineFault}
use Rattle.homa_plain.specs.declared.fault.LineFault.TheVariants.{Script, World as ByWorld}
use Rattle.homa_plain.specs.Entries.{PlainEntry, PlainSettings, PlainFinished, PlainRefused}
use Rattle.homa_plain.specs.Text.{line_text}
use Rattle.homa_plain.specs.Script.{Given, GivenEvent, GivenTicks, Refusal, Step, Opening, Opened, Unopened, opening, most_bytes}
use Rattle.homa_plain.specs.Rules.{Answer}
use Rattle.homa_plain.specs.World.{World, new_world, Refused, Done, outcome}

-- an event, with the bytes beside it
pub record Happening : Type 0 where
  pub event : Event
  pub bytes : List ℕ

-- an event without bytes beside it
abbrev pub bare : Event → Happening
bare e = record { event = e; bytes = [] }

-- a turn of each host from number n on, of so many
abbrev pub turns_of : ℕ → ℕ → List Happening
turns_of n zero = []
turns_of n (suc hosts) = bare (event.Turn (record { 0 = n })) ∷ turns_of (suc n) hosts

-- so many ticks: in each the clock goes on, and then each host has a turn
abbrev pub ticks : ℕ → ℕ → List Happening
ticks hosts zero = []
ticks hosts (suc n) = bare event.Clock ∷ turns_of 0 hosts ++ ticks hosts n

-- the events of a line
abbrev pub events_of : ℕ → Given → List Happening
events_of hosts (GivenEvent e bytes) = record { event = e; bytes = bytes } ∷ []
events_of hosts (GivenTicks n) = ticks hosts n

-- what was printed, how many events were carried out, the world after them, and why the next one was refused
pub record Run : Type 0 where
  pub world : World
  pub told : List PlainEntry
  pub count : ℕ
  pub fault : Option LineFault

-- what one event more prints, before all that later ones print
abbrev pub after_event : List PlainEntry → Run → Run
after_event told run = record run { told = told ++ run.told; count = run.count + 1 }

-- these events one after the other, up to the first that the world refuses
unfoldable pub carried : Settings → World → List Happening → Run
carried s w [] = record { world = w; told = []; count = 0; fault = None }
carried s w (e ∷ es) =
    elim (outcome s w e.event e.bytes) [
      | Refused fault ↦ record { world = w; told = []; count = 0; fault = Some (ByWorld fault) }
      | Done after ↦ after_event after.told (carried s after.world es)
    ]

-- how a replay ends: after so many events, or at a line that is refused
pub data End : Type 0 where
  Finished : (events : ℕ) → End
  RefusedAt : (line : ℕ) (fault : LineFault) → End

-- what a replay prints, and how it ends
pub record Replay : Type 0 where
  pub told : List PlainEntry
  pub end : End

-- a replay, after what was printed before it
abbrev pub with_told : List PlainEntry → Replay → Replay
with_told told rest = record rest { told = told ++ rest.told }

-- how a replay ends after its last event: after so many events, or at the line that its words refuse
abbrev pub end_after : ℕ → Option Refusal → End
end_after events None = Finished events
end_after events (Some refusal) = RefusedAt refusal.line (Script refusal.fault)

-- the lines after `go` in a world in which so many events were carried out;
-- the last of them is the line that its words refuse, if one is refused
unfoldable pub replayed : Settings → World → ℕ → List Step → Option Refusal → Replay
replayed s w events [] refused = record { told = []; end = end_after events refused }
replayed s w events (step ∷ steps) refused =
    let run = carried s w (events_of s.hosts step.given) in
    elim (run.fault) [
      | Some fault ↦ record { told = run.told; end = RefusedAt step.line fault }
      | None ↦ with_told run.told (replayed s run.world (events + run.count) steps refused)
    ]

-- the replay of an opened schedule; one that isn't opened prints nothing but its end
abbrev pub replay_opened : Opening → List Answer → ℕ → Replay
replay_opened (Unopened refusal) answers boxes = record { told = []; end = RefusedAt refusal.line (Script refusal.fault) }
replay_opened (Opened s steps) answers boxes =
    with_told (PlainSettings s ∷ []) (replayed s (new_world s (replicate s.hosts 1) 0 boxes answers) 0 steps.steps steps.refused)

-- the replay of an input, where the services answer so, and there are so many boxes
unfoldable pub replay : List ℕ → List Answer → ℕ → Replay
replay bytes answers boxes = replay_opened (opening most_bytes bytes) answers boxes

-- the entry of the last line
abbrev pub last_entry : End → PlainEntry
last_entry (Finished events) = PlainFinished events
last_entry (RefusedAt line fault) = PlainRefused line fault

-- every line of a replay
abbrev pub lines : Replay → List PlainEntry
lines r = r.told ++ last_entry r.end ∷ []

-- what the replay of an input prints
abbrev pub replay_text : List ℕ → List Answer → ℕ → List ℕ
replay_text bytes answers boxes = flat_map line_text (lines (replay bytes answers boxes))
