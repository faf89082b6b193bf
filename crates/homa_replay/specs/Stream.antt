-- A replay event by event, whose services are still to answer.
use Rattle.std.specs.Prelude.{◌≡◌, ℕ, ◌+◌, Bool, true, false, Option, None, Some, List, [], ◌++◌}
use Rattle.homa_plain.specs.declared.settings.Settings.{Settings}
use Rattle.homa_plain.specs.declared.fault.WorldFault.{WorldFault}
use Rattle.homa_plain.specs.declared.fault.LineFault.{LineFault}
use Rattle.homa_plain.specs.declared.fault.LineFault.TheVariants.{World as ByWorld}
use Rattle.homa_plain.specs.Entries.{PlainEntry}
use Rattle.homa_plain.specs.Script.{Steps}
use Rattle.homa_plain.specs.Rules.{Answer}
use Rattle.homa_plain.specs.World.{World, Refused, Done, outcome}
use Rattle.homa_plain.specs.Answers.{answering}
use Rattle.homa_plain.specs.Replay.{Happening, Run, Replay, End, Finished, RefusedAt, carried, replayed, with_told}

-- the rest of a replay where a line's events ran so: it ends there at a fault, and else goes on with these steps
abbrev pub ends_by : Settings → ℕ → ℕ → Steps → Run → Option LineFault → Replay
ends_by s events line steps run (Some fault) = record { told = run.told; end = RefusedAt line fault }
ends_by s events line steps run None = with_told run.told (replayed s run.world (events + run.count) steps.steps steps.refused)

-- the rest of a replay in the midst of a line, of which these events are left; behind it stand these steps
unfoldable pub goes_on : Settings → World → ℕ → ℕ → List Happening → Steps → Replay
goes_on s w events line es steps = let run = carried s w es in ends_by s events line steps run run.fault

-- nothing more is told
abbrev pub ending : End → Replay
ending end = record { told = []; end = end }

-- the line is refused by the world
abbrev pub refused_line : ℕ → WorldFault → Replay
refused_line line fault = ending (RefusedAt line (ByWorld fault))

-- An event is done, whose services answered so; whatever they answer later, it is the plain world's outcome.
abbrev pub IsDone : Settings → World → Happening → List Answer → World → List PlainEntry → Type 0
IsDone s w e given next told =
    (later : List Answer) → outcome s (answering (given ++ later) w) e.event e.bytes ≡ Done (record { world = answering later next; told = told })

-- the plain world refuses an event, whatever its services answer
abbrev pub IsRefused : Settings → World → Happening → WorldFault → Type 0
IsRefused s w e fault = (later : List Answer) → outcome s (answering later w) e.event e.bytes ≡ Refused fault

-- whether a replay ends at a line that is refused
abbrev pub is_refusal : End → Bool
is_refusal (Finished events) = false
is_refusal (RefusedAt line fault) = true
