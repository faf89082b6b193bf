-- Events that are all carried out, as the lines of a replay.
use Rattle.std.proofs.Common.{◌≡◌, ℕ, suc, ◌+◌, Option, Some, None, List, [], ◌∷◌, ◌++◌, refl, sym, ap, ◌∙◌}
use Rattle.std.specs.List.{flat_map}
use Rattle.homa_plain.specs.declared.settings.Settings.{Settings}
use Rattle.homa_plain.specs.declared.fault.LineFault.{LineFault}
use Rattle.homa_plain.specs.Entries.{PlainEntry}
use Rattle.homa_plain.specs.Script.{Given}
use Rattle.homa_plain.specs.World.{World, Outcome, Refused, Done, outcome}
use Rattle.homa_plain.specs.Replay.{Happening, Run, Replay, Finished, RefusedAt, carried, events_of, replayed, with_told}
use Rattle.generated_runs.proofs.Carried.{by_outcome, first_event, no_event, joined}
use Rattle.generated_laws.specs.Unrefused.{steps_of}

-- where all is done, so is the first part
front_by : (s : Settings) (w : World) (a b : List Happening) (o : Outcome) → ((v : World) → (carried s v (a ++ b)).fault ≡ None → (carried s v a).fault ≡ None)
    → (by_outcome s w (a ++ b) o).fault ≡ None → (by_outcome s w a o).fault ≡ None
front_by s w a b (Refused fault) next done = done
front_by s w a b (Done after) next done = next after.world done

front_done : (s : Settings) (w : World) (a b : List Happening) → (carried s w (a ++ b)).fault ≡ None → (carried s w a).fault ≡ None
front_done s w [] b done = ap (λ (r : Run). r.fault) (no_event s w)
front_done s w (e ∷ a) b done =
    ap (λ (r : Run). r.fault) (first_event s w e a)
    ∙ front_by s w a b (outcome s w e.event e.bytes) (λ v h. front_done s v a b h) (ap (λ (r : Run). r.fault) (sym (first_event s w e (a ++ b))) ∙ done)

-- ---- the replay of lines

-- the rest of a replay, by what its first line does
abbrev after_line : Settings → ℕ → ℕ → List Given → Run → Option LineFault → Replay
after_line s events line rest run (Some fault) = record { told = run.told; end = RefusedAt line fault }
after_line s events line rest run None = with_told run.told (replayed s run.world (events + run.count) (steps_of (suc line) rest) None)

first_line : (s : Settings) (w : World) (events line : ℕ) (given : Given) (rest : List Given)
    → replayed s w events (steps_of line (given ∷ rest)) None
    ≡ after_line s events line rest (carried s w (events_of s.hosts given)) (carried s w (events_of s.hosts given)).fault
unfolding replayed
first_line s w events line given rest = refl

no_line : (s : Settings) (w : World) (events line : ℕ) → replayed s w events (steps_of line []) None ≡ record { told = []; end = Finished events }
unfolding replayed
no_line s w events line = refl

-- lines whose events are all carried out
pub replayed_whole : (s : Settings) (lines : List Given) (w : World) (events : ℕ) → (carried s w (flat_map (events_of s.hosts) lines)).fault ≡ None
    → (n : ℕ) × ((line : ℕ) → replayed s w events (steps_of line lines) None
    ≡ record { told = (carried s w (flat_map (events_of s.hosts) lines)).told; end = Finished n })
replayed_whole s [] w events done =
    (events, λ line. no_line s w events line ∙ ap (λ (r : Run). record { told = r.told; end = Finished events }) (sym (no_event s w)))
replayed_whole s (given ∷ rest) w events done =
    let a = events_of s.hosts given in
    let b = flat_map (events_of s.hosts) rest in
    let first = front_done s w a b done in
    let join = joined s w a b first in
    let run = carried s w a in
    let later = replayed_whole s rest run.world (events + run.count) (sym join.fault ∙ done) in (
      later.0,
      λ line.
          first_line s w events line given rest
          ∙ (ap (after_line s events line rest run) first
          ∙ (ap (with_told run.told) (later.1 (suc line))
          ∙ ap (λ (l : List PlainEntry). record { told = l; end = Finished later.0 }) (sym join.told))),
    )
