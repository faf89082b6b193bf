-- What is printed of a generated run, whose services answered as its own `run` lines show.
use Rattle.std.specs.Prelude.{◌≡◌, ℕ, Option, List, [], ◌++◌, ◌∷◌}
use Rattle.homa_io.specs.Outside.{appended, TookFront}
use Rattle.homa_plain.specs.Entries.{PlainEntry, PlainSettings}
use Rattle.homa_plain.specs.Rules.{Answer}
use Rattle.homa_plain.specs.Answers.{shown}
use Rattle.generated_runs.specs.Rounds.{Generated}
use Rattle.generated_runs.specs.Generated.{generated, generated_settings, schedule_text}
use Rattle.homa_generate.specs.Counts.{counted, no_counts}
use Rattle.homa_generate.specs.Going.{answered, IsFirstTold}

-- a run, by what its services answer
abbrev pub Run : Type 0
Run = List Answer → Generated

-- the run of a seed and so many calls, with so many boxes
abbrev pub run_of : ℕ → ℕ → ℕ → Run
run_of seed calls boxes answers = generated seed calls boxes answers

-- Its schedule was printed, and its trace counted, in which the services answered so; the boxes allow it.
pub record HasRun (run : Run) (old new : Option (List ℕ)) (allowed : List PlainEntry → Type 0) (counts : List ℕ) : Type 0 where
  pub end : Generated
  pub printed : new ≡ appended old (schedule_text generated_settings end)
  pub is_counted : counts ≡ counted no_counts end.told
  pub allow : allowed (PlainSettings generated_settings ∷ end.told)
  pub same : (later : List Answer) → run (shown end.told ++ later) ≡ answered later end

-- A text of a run was printed. Its `run` lines show these answers, which the boxes allow.
pub record IsMade (run : Run) (text : Generated → List ℕ) (old new : Option (List ℕ)) (allowed : List PlainEntry → Type 0) : Type 0 where
  pub answers : List Answer
  pub printed : new ≡ appended old (text (run answers))
  pub shows : shown (run answers).told ≡ answers
  pub allow : allowed (PlainSettings generated_settings ∷ (run answers).told)

-- What was told, which the boxes allow, is a front of what the run tells, with the answers that this shows, and a front of its text was
-- printed, whatever the services answer after what was told.
pub record IsPartMade (run : Run) (text : Generated → List ℕ) (old new : Option (List ℕ)) (allowed : List PlainEntry → Type 0) : Type 0 where
  pub told : List PlainEntry
  pub allow : allowed (PlainSettings generated_settings ∷ told)
  pub is_first : (later : List Answer) → IsFirstTold (run (shown told ++ later)) [] told
  pub front : (later : List Answer) → TookFront old new (text (run (shown told ++ later)))
