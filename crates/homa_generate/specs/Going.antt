-- How a generated run goes on, in the code's world, fabric, counts and sink.
use Rattle.std.specs.Prelude.{◌≡◌, ℕ, Option, List, ◌++◌}
use Rattle.std.specs.List.{flat_map}
use Rattle.homa_io.specs.Outside.{appended, TookFront}
use Rattle.homa_plain.specs.Entries.{PlainEntry}
use Rattle.homa_plain.specs.Rules.{Answer}
use Rattle.homa_plain.specs.Script.{Given}
use Rattle.homa_plain.specs.World.{World}
use Rattle.homa_plain.specs.Answers.{shown, answering}
use Rattle.generated_runs.specs.Fabric.{Fabric}
use Rattle.generated_runs.specs.Rounds.{Generated}
use Rattle.generated_runs.specs.Generated.{given_text}
use Rattle.homa_generate.specs.Counts.{counted}

-- the run whose services will answer so
abbrev pub answered : List Answer → Generated → Generated
answered answers g = record g { world = answering answers g.world }

-- What the code holds beside its world: the fabric, how many calls are still to be made, the counts, and what the sink took.
pub record Holds : Type 0 where
  pub fabric : Fabric
  pub left : ℕ
  pub counts : List ℕ
  pub taken : Option (List ℕ)

-- it holds what this run has
pub record IsAt (h : Holds) (stands : World → Type 0) (g : Generated) : Type 0 where
  pub world : stands g.world
  pub fabric : h.fabric ≡ g.fabric
  pub left : h.left ≡ g.left

-- The run went on: what `all` makes of it is what `rest` makes of the next one. These entries were counted and these lines printed;
-- the boxes allow what was told, and `after` says what they allow from then on.
pub record HasGone (all rest : Generated → Generated) (g : Generated) (a b : Holds) (stands : World → Type 0)
    (before after : List PlainEntry → Type 0) : Type 0 where
  pub next : Generated
  pub stood : IsAt b stands next
  pub told : List PlainEntry
  pub lines : List Given
  pub tells : next.told ≡ g.told ++ told
  pub has : next.lines ≡ g.lines ++ lines
  pub counts : b.counts ≡ counted a.counts told
  pub printed : b.taken ≡ appended a.taken (flat_map given_text lines)
  pub allowed : (more : List PlainEntry) → after more → before (told ++ more)
  pub same : (later : List Answer) → all (answered (shown told ++ later) g) ≡ rest (answered later next)

-- these entries are the first of those that a run tells behind others
pub record IsFirstTold (run : Generated) (before told : List PlainEntry) : Type 0 where
  pub rest : List PlainEntry
  pub tells : run.told ≡ before ++ (told ++ rest)

-- It stopped. What was told is a front of what `all` makes of it, with the answers that this shows, and a front of the lines of that was
-- printed, whatever the services answer after what was told.
pub record HasStopped (all : Generated → Generated) (g : Generated) (old new : Option (List ℕ)) (before : List PlainEntry → Type 0) : Type 0 where
  pub told : List PlainEntry
  pub allowed : before told
  pub is_first : (later : List Answer) → IsFirstTold (all (answered (shown told ++ later) g)) g.told told
  pub front : (later : List Answer) (lines : List Given) → (all (answered (shown told ++ later) g)).lines ≡ g.lines ++ lines
      → TookFront old new (flat_map given_text lines)
