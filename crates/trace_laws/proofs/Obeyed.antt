-- Each replay that opens a world obeys what every trace obeys.
use Rattle.std.proofs.Common.{◌≡◌, ◌≤◌, ℕ, zero, suc, false, None, List, [], ◌∷◌, ◌++◌, take, replicate, refl, sym, ap, subst, ◌∙◌}
use Rattle.homa_plain.specs.declared.settings.Settings.{Settings}
use Rattle.homa_plain.specs.Entries.{PlainEntry, PlainSettings}
use Rattle.homa_plain.specs.Script.{Steps, Opening, Opened, Unopened, opening, most_bytes}
use Rattle.homa_plain.specs.Rules.{Answer}
use Rattle.homa_plain.specs.World.{new_world}
use Rattle.homa_plain.specs.Replay.{replay_opened, replay, last_entry, lines}
use Rattle.trace_rules.specs.View.{View, nothing_seen}
use Rattle.trace_rules.specs.Seen.{seen}
use Rattle.trace_rules.specs.Laws.{Holds}
use Rattle.trace_rules.specs.Judge.{Obeys, first_broken}
use Rattle.trace_rules.proofs.LawsJudged.{none_found}
use Rattle.trace_steps.specs.Always.{last_incarnation, trace}
use Rattle.trace_laws.specs.Shaped.{HoldsWithCause}
use Rattle.trace_laws.proofs.Joined.{obeyed_always}
use Rattle.trace_laws.specs.Replays.{is_opened, events_in, OfEveryReplay}
use Rattle.trace_laws.proofs.Traces.{told_lines}
use Rattle.trace_laws.proofs.Causes.{replay_cause, last_is_last}
use Rattle.trace_laws.proofs.Openings.{opening_valid, may_open, IsOpen, is_open}

-- ---- a replay is a trace

opened_told : (s : Settings) (steps : Steps) (answers : List Answer) (boxes : ℕ)
    → (replay_opened (Opened s steps) answers boxes).told ≡ trace s (replicate s.hosts 1) 0 boxes answers (events_in s.hosts steps.steps)
opened_told s steps answers boxes =
    ap (λ (l : List PlainEntry). PlainSettings s ∷ l) (told_lines s (new_world s (replicate s.hosts 1) 0 boxes answers) 0 steps.steps steps.refused)

pub replay_told : (bytes : List ℕ) (s : Settings) (steps : Steps) (answers : List Answer) (boxes : ℕ) → opening most_bytes bytes ≡ Opened s steps
    → (replay bytes answers boxes).told ≡ trace s (replicate s.hosts 1) 0 boxes answers (events_in s.hosts steps.steps)
unfolding replay
replay_told bytes s steps answers boxes e = ap (λ (o : Opening). (replay_opened o answers boxes).told) e ∙ opened_told s steps answers boxes

unopened_told : (bytes : List ℕ) (answers : List Answer) (boxes : ℕ) (o : Opening) → opening most_bytes bytes ≡ o → is_opened o ≡ false
    → (replay bytes answers boxes).told ≡ []
unfolding replay
unopened_told bytes answers boxes (Opened s steps) e opened = absurd cc
unopened_told bytes answers boxes (Unopened refusal) e opened = ap (λ (p : Opening). (replay_opened p answers boxes).told) e

-- ---- what the first of these lines obey

holds_first : (law : View → PlainEntry → Type 0) (v : View) (told : List PlainEntry) (n : ℕ) → Holds law v told → Holds law v (take n told)
holds_first law v told zero h = tt
holds_first law v [] (suc n) h = tt
holds_first law v (line ∷ told) (suc n) h = (h.0, holds_first law (seen v line) told n h.1)

-- ---- the law

module _ (law : View → PlainEntry → Type 0) (always : HoldsWithCause law) where
  told_holds : (bytes : List ℕ) (answers : List Answer) (boxes : ℕ) → boxes ≤ last_incarnation → IsOpen bytes
      → Holds law nothing_seen (replay bytes answers boxes).told
  told_holds bytes answers boxes few o =
      let s = o.settings in
      let valid = opening_valid bytes s o.steps o.is in
      subst (Holds law nothing_seen) (sym (replay_told bytes s o.steps answers boxes o.is))
      (always s (replicate s.hosts 1) 0 boxes answers (events_in s.hosts o.steps.steps) (may_open s boxes valid few)).0

  lines_hold : (bytes : List ℕ) (answers : List Answer) (boxes : ℕ) → boxes ≤ last_incarnation → IsOpen bytes
      → Holds law nothing_seen (lines (replay bytes answers boxes))
  lines_hold bytes answers boxes few o =
      let s = o.settings in
      let valid = opening_valid bytes s o.steps o.is in
      let end = (replay bytes answers boxes).end in
      subst (λ (told : List PlainEntry). Holds law nothing_seen (told ++ last_entry end ∷ [])) (sym (replay_told bytes s o.steps answers boxes o.is))
      ((always s (replicate s.hosts 1) 0 boxes answers (events_in s.hosts o.steps.steps) (may_open s boxes valid few)).1 (last_entry end)
      (last_is_last end) (replay_cause bytes answers boxes))

  every_replay : OfEveryReplay (Holds law nothing_seen)
  every_replay bytes answers boxes opens few = lines_hold bytes answers boxes few (is_open bytes (opening most_bytes bytes) refl opens)

  every_front : OfEveryReplay (λ told. (n : ℕ) → Holds law nothing_seen (take n told))
  every_front bytes answers boxes opens few n = holds_first law nothing_seen (lines (replay bytes answers boxes)) n (every_replay bytes answers boxes opens few)

  told_always : (bytes : List ℕ) (answers : List Answer) (boxes : ℕ) → boxes ≤ last_incarnation → Holds law nothing_seen (replay bytes answers boxes).told
  told_always bytes answers boxes few = by_opening (opening most_bytes bytes) refl where
    by_opening : (o : Opening) → opening most_bytes bytes ≡ o → Holds law nothing_seen (replay bytes answers boxes).told
    by_opening (Opened s steps) e = told_holds bytes answers boxes few (record { settings = s; steps = steps; is = e })
    by_opening (Unopened refusal) e = subst (Holds law nothing_seen) (sym (unopened_told bytes answers boxes (Unopened refusal) e refl)) tt

-- ---- with the laws of every trace

pub obeyed : OfEveryReplay (Holds Obeys nothing_seen)
obeyed = every_replay Obeys obeyed_always

pub fronts_obeyed : OfEveryReplay (λ told. (n : ℕ) → Holds Obeys nothing_seen (take n told))
fronts_obeyed = every_front Obeys obeyed_always

pub none_broken : OfEveryReplay (λ told. first_broken told ≡ None)
none_broken bytes answers boxes opens few = (none_found (lines (replay bytes answers boxes))).1 (obeyed bytes answers boxes opens few)

pub told_obeyed : (bytes : List ℕ) (answers : List Answer) (boxes : ℕ) → boxes ≤ last_incarnation → Holds Obeys nothing_seen (replay bytes answers boxes).told
told_obeyed = told_always Obeys obeyed_always
