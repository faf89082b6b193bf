-- What the lines that a node printed obey, however its run ended: the law, stated; it is proved in this crate.
use Rattle.std.specs.Prelude.{◌≡◌, ◌⊎◌, ℕ, Bool, true, false, Option, List}
use Rattle.std.specs.List.{AllByRecursion}
use Rattle.homa_plain.specs.Entries.{PlainEntry}
use Rattle.homa_plain.specs.Rules.{Answer}
use Rattle.homa_plain.specs.Answers.{shown}
use Rattle.homa_plain.specs.Script.{most_bytes}
use Rattle.node_runs.specs.Script.{Opening, Opened, Unopened, opening}
use Rattle.node_runs.specs.Course.{Receive, End, Run, node_run}
use Rattle.node_runs.specs.Replayed.{IsAnswer}
use Rattle.node_runs.specs.Texts.{node_text}
use Rattle.node_turns.specs.Told.{listed}
use Rattle.node_output.specs.Traces.{Around, IsWhole, IsBrokenOff, IsEndCut, node_telling}
use Rattle.node_trace_laws.specs.Taken.{TookLawfulRun, TookLawfulFront}

-- whether a node is opened
abbrev pub is_opened : Opening → Bool
is_opened (Opened setup calls) = true
is_opened (Unopened refusal) = false

-- the script reaches its `go`, its settings are valid, and each host has its place
abbrev pub OpensNode : List ℕ → Type 0
OpensNode bytes = is_opened (opening most_bytes bytes) ≡ true

-- each answer that these entries show has 1 to 1,000,000 bytes, and a hold of at most 1,000,000 ticks
abbrev pub AreFair : List PlainEntry → Type 0
AreFair told = AllByRecursion IsAnswer (shown told)

-- the law holds of what a sink took of the run of these bytes, with what the net gave meanwhile
pub record OfRun (so : Run → Option (List ℕ) → Option (List ℕ) → Type 0) (bytes : List ℕ) (old new : Around) : Type 0 where
  pub answers : List Answer
  pub ticks : List ℕ
  pub gave : List Receive
  pub given : new.gave ≡ listed old.gave gave
  pub taken : so (node_run bytes answers ticks gave) old.taken new.taken

-- all lines of the run were taken; if the net was honest in them, they obey all laws
abbrev pub TookAll : List ℕ → Around → Around → Type 0
TookAll bytes old new = OfRun TookLawfulRun bytes old new

-- the first lines of the run were taken whole, and a part of the next one; if the net was honest in the whole lines, these obey all laws
abbrev pub TookSome : List ℕ → Around → Around → Type 0
TookSome bytes old new = OfRun TookLawfulFront bytes old new

-- if the text of a run was printed, all of its lines were taken
abbrev pub WholePrintsObey : Type 0
WholePrintsObey = (bytes : List ℕ) → OpensNode bytes → (old new : Around) (end : End) → IsWhole AreFair bytes old new end → TookAll bytes old new

-- if a run was broken off, or a write failed at its last line, the first of its lines were taken
abbrev pub PartPrintsObey : Type 0
PartPrintsObey =
    (bytes : List ℕ) → OpensNode bytes → (left : Option (List ℕ)) (old new : Around)
    → IsBrokenOff AreFair node_telling bytes left old new ⊎ IsEndCut AreFair node_telling bytes old new → TookSome bytes old new
