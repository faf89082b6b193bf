-- A replay goes on event by event.
use Rattle.std.proofs.Common.{◌≡◌, ℕ, ◌+◌, Option, None, Some, List, [], ◌∷◌, ◌++◌, refl, sym, ap, ◌∙◌, append_assoc, arith}
use Rattle.homa_plain.specs.declared.settings.Settings.{Settings}
use Rattle.homa_plain.specs.declared.fault.WorldFault.{WorldFault}
use Rattle.homa_plain.specs.declared.fault.LineFault.{LineFault}
use Rattle.homa_plain.specs.declared.fault.LineFault.TheVariants.{World as ByWorld}
use Rattle.homa_plain.specs.Entries.{PlainEntry, PlainRun}
use Rattle.homa_plain.specs.Script.{Step, Steps}
use Rattle.homa_plain.specs.Rules.{Answer}
use Rattle.homa_plain.specs.World.{World, Outcome, Refused, Done, outcome}
use Rattle.homa_plain.specs.Replay.{Happening, Run, Replay, RefusedAt, after_event, carried, events_of, replayed, with_told}
use Rattle.homa_plain.specs.Answers.{shown, answering}
use Rattle.homa_replay.specs.Stream.{ends_by, goes_on, refused_line, IsDone, IsRefused}

-- ---- lines

by_fault : Settings → ℕ → ℕ → Steps → Run → Option LineFault → Replay
by_fault s events line steps run fault = elim fault [
  | Some f ↦ record { told = run.told; end = RefusedAt line f }
  | None ↦ with_told run.told (replayed s run.world (events + run.count) steps.steps steps.refused)
]

same_by : (s : Settings) (events line : ℕ) (steps : Steps) (run : Run) (fault : Option LineFault)
    → by_fault s events line steps run fault ≡ ends_by s events line steps run fault
unfolding by_fault
same_by s events line steps run None = refl
same_by s events line steps run (Some f) = refl

-- a line begins
pub line_begins : (s : Settings) (w : World) (events : ℕ) (step : Step) (steps : Steps)
    → replayed s w events (step ∷ steps.steps) steps.refused ≡ goes_on s w events step.line (events_of s.hosts step.given) steps
unfolding by_fault replayed goes_on
line_begins s w events step steps = let run = carried s w (events_of s.hosts step.given) in same_by s events step.line steps run run.fault

-- a line is over
pub line_over : (s : Settings) (w : World) (events line : ℕ) (steps : Steps) → goes_on s w events line [] steps ≡ replayed s w events steps.steps steps.refused
unfolding carried goes_on
line_over s w events line steps = ap (λ (n : ℕ). replayed s w n steps.steps steps.refused) (omega arith)

-- ---- events

-- what is carried, by the outcome of the first event
carried_by : Settings → World → List Happening → Outcome → Run
carried_by s w es (Refused fault) = record { world = w; told = []; count = 0; fault = Some (ByWorld fault) }
carried_by s w es (Done after) = after_event after.told (carried s after.world es)

case_same : (s : Settings) (w : World) (es : List Happening) (o : Outcome)
    → elim o [
      | Refused fault ↦ record { world = w; told = []; count = 0; fault = Some (ByWorld fault) }
      | Done after ↦
          after_event after.told (carried s after.world es)
    ] ≡ carried_by s w es o
unfolding carried_by
case_same s w es (Refused fault) = refl
case_same s w es (Done after) = refl

carried_first : (s : Settings) (w : World) (e : Happening) (es : List Happening) (o : Outcome) → outcome s w e.event e.bytes ≡ o
    → carried s w (e ∷ es) ≡ carried_by s w es o
unfolding carried
carried_first s w e es o h = case_same s w es (outcome s w e.event e.bytes) ∙ ap (carried_by s w es) h

-- one event more in front of a run
more_told : (s : Settings) (events line : ℕ) (steps : Steps) (told : List PlainEntry) (run : Run) (fault : Option LineFault)
    → ends_by s events line steps (after_event told run) fault ≡ with_told told (ends_by s (events + 1) line steps run fault)
more_told s events line steps told run (Some f) = refl
more_told s events line steps told run None =
    let n : events + (run.count + 1) ≡ events + 1 + run.count = omega arith in
    ap (λ (k : ℕ). with_told (told ++ run.told) (replayed s run.world k steps.steps steps.refused)) n
    ∙ ap (λ (l : List PlainEntry). record { told = l; end = (replayed s run.world (events + 1 + run.count) steps.steps steps.refused).end })
    (append_assoc told run.told (replayed s run.world (events + 1 + run.count) steps.steps steps.refused).told)

-- an event is done
pub event_done : (s : Settings) (w next : World) (events line : ℕ) (e : Happening) (es : List Happening) (steps : Steps) (given later : List Answer)
    (told : List PlainEntry)
    → IsDone s w e given next told → goes_on s (answering (given ++ later) w) events line (e ∷ es) steps ≡ with_told told
    (goes_on s (answering later next) (events + 1) line es steps)
unfolding carried_by goes_on
event_done s w next events line e es steps given later told d =
    ap (λ (r : Run). ends_by s events line steps r r.fault) (carried_first s (answering (given ++ later) w) e es _ (d later))
    ∙ (let run = carried s (answering later next) es in more_told s events line steps told run run.fault)

-- an event is refused
pub event_refused : (s : Settings) (w : World) (events line : ℕ) (e : Happening) (es : List Happening) (steps : Steps) (later : List Answer)
    (fault : WorldFault)
    → IsRefused s w e fault → goes_on s (answering later w) events line (e ∷ es) steps ≡ refused_line line fault
unfolding carried_by goes_on
event_refused s w events line e es steps later fault r =
    ap (λ (v : Run). ends_by s events line steps v v.fault) (carried_first s (answering later w) e es (Refused fault) (r later))

-- ---- answers

pub shown-append : (a b : List PlainEntry) → shown (a ++ b) ≡ shown a ++ shown b
shown-append [] b = refl
shown-append (PlainRun host id service request response hold ∷ a) b = ap (λ (l : List Answer). record { bytes = response; hold = hold } ∷ l) (shown-append a b)
shown-append (entry ∷ a) b = shown-append a b

-- the answers of two parts, one behind the other
pub shown_parts : (a b : List PlainEntry) (later : List Answer) → shown (a ++ b) ++ later ≡ shown a ++ (shown b ++ later)
shown_parts a b later = ap (λ (l : List Answer). l ++ later) (shown-append a b) ∙ append_assoc (shown a) (shown b) later

-- what is told in two parts
pub told_parts : (a b : List PlainEntry) (r : Replay) → with_told a (with_told b r) ≡ with_told (a ++ b) r
told_parts a b r = ap (λ (l : List PlainEntry). record { told = l; end = r.end }) (sym (append_assoc a b r.told))
