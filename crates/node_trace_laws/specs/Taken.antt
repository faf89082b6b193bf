-- What a sink took of a node's trace, and what these lines obey: the law, stated; it is proved in this crate.
use Rattle.std.specs.Prelude.{◌≡◌, ◌<◌, ◌≤◌, ℕ, Option, None, Some, List, [], ◌++◌, length, take, slice_get}
use Rattle.std.specs.List.{flat_map}
use Rattle.homa_io.specs.Outside.{appended, TookFront}
use Rattle.homa_plain.specs.Entries.{PlainEntry}
use Rattle.homa_plain.specs.Text.{line_text}
use Rattle.trace_rules.specs.View.{nothing_seen}
use Rattle.trace_rules.specs.Laws.{Holds}
use Rattle.trace_rules.specs.Judge.{Obeys}
use Rattle.node_runs.specs.Course.{Run}
use Rattle.node_runs.specs.Recorder.{no_notes}
use Rattle.node_runs.specs.Texts.{node_text}
use Rattle.node_trace_laws.specs.Honest.{AreHonest, lines, OfEveryRun}

-- a part of the next line that isn't all of it; none, where there is no next line
abbrev pub IsPartOf : List ℕ → Option PlainEntry → Type 0
IsPartOf part None = part ≡ []
IsPartOf part (Some line) = (rest : List ℕ) × (part ++ rest ≡ line_text line) × (0 < length rest)

-- Of a run's lines the first ones were taken whole, with their line feeds, and of the next one a part. Where the net was honest in the lines that were taken
-- whole, they have the shape of a trace and obey all five laws.
pub record TookLawfulFront (run : Run) (old new : Option (List ℕ)) : Type 0 where
  pub many : ℕ
  pub most : many ≤ length (lines run)
  pub part : List ℕ
  pub of_next : IsPartOf part (slice_get (lines run) many)
  pub taken : new ≡ appended old (flat_map line_text (take many (lines run)) ++ part)
  pub obey : AreHonest no_notes (take many (lines run)) → Holds Obeys nothing_seen (take many (lines run))

-- All of a run's lines were taken. Where the net was honest in them, they have the shape of a trace and obey all five laws.
pub record TookLawfulRun (run : Run) (old new : Option (List ℕ)) : Type 0 where
  pub taken : new ≡ appended old (flat_map line_text (lines run))
  pub obey : AreHonest no_notes (lines run) → Holds Obeys nothing_seen (lines run)

-- where a sink took a node's text, it took lines that obey all laws; and where it took a front of it, as where a run is broken off
abbrev pub WholeTextsObey : Type 0
WholeTextsObey = OfEveryRun (λ run. (old new : Option (List ℕ)) → new ≡ appended old (node_text run) → TookLawfulRun run old new)

abbrev pub FrontsObey : Type 0
FrontsObey = OfEveryRun (λ run. (old new : Option (List ℕ)) → TookFront old new (node_text run) → TookLawfulFront run old new)
