-- An event of the plain world, whatever its services answer later.
use Rattle.std.specs.Prelude.{◌≡◌, ℕ, ◌+◌, if◌then◌else◌, List, [], ◌∷◌, ◌++◌, length, slice_set}
use Rattle.homa_plain.specs.declared.id.HostId.{HostId}
use Rattle.homa_plain.specs.declared.settings.Settings.{Settings}
use Rattle.homa_plain.specs.declared.event.Event.{Event}
use Rattle.homa_plain.specs.declared.fault.WorldFault.{WorldFault}
use Rattle.homa_plain.specs.Entries.{PlainEntry}
use Rattle.homa_plain.specs.Host.{Host, new_host, packets_in, entries_from}
use Rattle.homa_plain.specs.Rules.{Answer}
use Rattle.homa_plain.specs.Work.{Work}
use Rattle.homa_plain.specs.Steps.{has_run}
use Rattle.homa_plain.specs.World.{World, Done, Refused, outcome, stamped}
use Rattle.homa_plain.specs.Answers.{answering}

-- the world after a step of a host
abbrev pub stepped_world : World → HostId → Work → World
stepped_world w id step = record w { hosts = slice_set w.hosts id.0 step.host; packets = w.packets ++ stamped w.clock (packets_in step.told) }

-- what a step tells, behind the event's own entry
abbrev pub step_told : World → List PlainEntry → Work → List PlainEntry
step_told w first step = first ++ entries_from (length w.packets) step.told

-- an event is this step of a host, with these answers, and what is answered later stays
abbrev pub IsStepBy : List Answer → Settings → World → HostId → Event → List ℕ → List PlainEntry → Work → Type 0
IsStepBy given s w id e bytes first step =
    (later : List Answer)
    → outcome s (answering (given ++ later) w) e bytes ≡ Done (record { world = answering later (stepped_world w id step); told = step_told w first step })

-- an event is a step of a host in which no service is asked
abbrev pub IsStep : Settings → World → HostId → Event → List ℕ → List PlainEntry → Work → Type 0
IsStep s w id e bytes first step = IsStepBy [] s w id e bytes first step

-- an event is a step of a host, with an answer where its service is asked
abbrev pub IsStepWith : Answer → Settings → World → HostId → Event → List ℕ → List PlainEntry → Work → Type 0
IsStepWith a s w id e bytes first step = IsStepBy (if has_run step.told then a ∷ [] else []) s w id e bytes first step

-- an event without bytes makes this of the world, and tells this
abbrev pub IsChange : Settings → World → Event → World → List PlainEntry → Type 0
IsChange s w e next told = (later : List Answer) → outcome s (answering later w) e [] ≡ Done (record { world = answering later next; told = told })

-- an event with these bytes is refused for this reason
abbrev pub IsRefusal : Settings → World → Event → List ℕ → WorldFault → Type 0
IsRefusal s w e bytes fault = (later : List Answer) → outcome s (answering later w) e bytes ≡ Refused fault

-- the world a tick later
abbrev pub ticked_world : World → World
ticked_world w = record w { clock = w.clock + 1 }

-- the world in which a host begins its next life, and so many boxes are spare
abbrev pub restarted_world : Settings → World → HostId → Host → ℕ → World
restarted_world s w id h spares = record w { hosts = slice_set w.hosts id.0 (new_host s id (h.inc + 1) h.last); spares = spares }

-- the world in which a host's own clock is ahead by n ticks
abbrev pub shifted_world : World → HostId → ℕ → World
shifted_world w id n = record w { leads = slice_set w.leads id.0 n }
