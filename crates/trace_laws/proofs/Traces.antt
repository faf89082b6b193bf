-- What the lines of a schedule tell is what their events tell, one line behind the other.
use Rattle.std.proofs.Common.{◌≡◌, ℕ, ◌+◌, Option, Some, None, List, [], ◌∷◌, ◌++◌, refl, sym, ap, ◌∙◌, append_assoc}
use Rattle.homa_plain.specs.declared.settings.Settings.{Settings}
use Rattle.homa_plain.specs.declared.fault.LineFault.{LineFault}
use Rattle.homa_plain.specs.declared.fault.LineFault.TheVariants.{World as ByWorld}
use Rattle.homa_plain.specs.Entries.{PlainEntry}
use Rattle.homa_plain.specs.Script.{Step, Refusal}
use Rattle.homa_plain.specs.World.{World, Outcome, Refused, Done, outcome}
use Rattle.homa_plain.specs.Replay.{Happening, Run, Replay, RefusedAt, after_event, with_told, events_of, carried, replayed}
use Rattle.trace_laws.specs.Replays.{events_in}

-- what is told of these events behind a run, which had this fault or none
abbrev told_behind : Settings → Run → List Happening → Option LineFault → List PlainEntry
told_behind s run es None = run.told ++ (carried s run.world es).told
told_behind s run es (Some fault) = run.told

-- with one event more in front of the run
told_more : (s : Settings) (told : List PlainEntry) (run : Run) (es : List Happening) (fault : Option LineFault)
    → told ++ told_behind s run es fault ≡ told_behind s (after_event told run) es fault
told_more s told run es None = sym (append_assoc told run.told (carried s run.world es).told)
told_more s told run es (Some fault) = refl

-- events behind others
told_both : (s : Settings) (w : World) (es more : List Happening)
    → (carried s w (es ++ more)).told ≡ (let run = carried s w es in told_behind s run more run.fault)
unfolding carried
told_both s w [] more = refl
told_both s w (e ∷ es) more = by_outcome (outcome s w e.event e.bytes) (λ v. told_both s v es more) where
  by_outcome : (o : Outcome) → ((v : World) → (carried s v (es ++ more)).told ≡ told_behind s (carried s v es) more (carried s v es).fault)
      → (elim o as (λ _. Run) [
        | Refused fault ↦ record { world = w; told = []; count = 0; fault = Some (ByWorld fault) }
        | Done after ↦
            after_event after.told (carried s after.world (es ++ more))
      ]).told
      ≡ (let run : Run = elim o as (λ _. Run) [
        | Refused fault ↦ record { world = w; told = []; count = 0; fault = Some (ByWorld fault) }
        | Done after ↦
            after_event after.told (carried s after.world es)
      ] in told_behind s run more run.fault)
  by_outcome (Refused fault) later = refl
  by_outcome (Done after) later =
      let run = carried s after.world es in ap (λ (l : List PlainEntry). after.told ++ l) (later after.world) ∙ told_more s after.told run more run.fault

-- the lines of a schedule
pub told_lines : (s : Settings) (w : World) (events : ℕ) (steps : List Step) (refused : Option Refusal)
    → (replayed s w events steps refused).told ≡ (carried s w (events_in s.hosts steps)).told
unfolding carried replayed
told_lines s w events [] refused = refl
told_lines s w events (step ∷ steps) refused =
    let run = carried s w (events_of s.hosts step.given) in
    by_fault run run.fault (λ v n. told_lines s v n steps refused) ∙ sym (told_both s w (events_of s.hosts step.given) (events_in s.hosts steps)) where
      by_fault : (run : Run) (o : Option LineFault) → ((v : World) (n : ℕ) → (replayed s v n steps refused).told ≡ (carried s v (events_in s.hosts steps)).told)
          → (elim o as (λ _. Replay) [
            | Some fault ↦ record { told = run.told; end = RefusedAt step.line fault }
            | None ↦ with_told run.told (replayed s run.world (events + run.count) steps refused)
          ]).told ≡ told_behind s run (events_in s.hosts steps) o
      by_fault run None later = ap (λ (l : List PlainEntry). run.told ++ l) (later run.world (events + run.count))
      by_fault run (Some fault) later = refl
