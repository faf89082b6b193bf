-- Lines that obey all laws.
use Rattle.std.specs.Prelude.{◌≡◌, ◌⊎◌, ℕ, true, Option, List}
use Rattle.std.specs.List.{flat_map}
use Rattle.homa_io.specs.Outside.{appended}
use Rattle.homa_plain.specs.Entries.{PlainEntry}
use Rattle.homa_plain.specs.Text.{line_text}
use Rattle.trace_rules.specs.View.{nothing_seen}
use Rattle.trace_rules.specs.Laws.{Holds}
use Rattle.trace_rules.specs.Judge.{Obeys}
use Rattle.node_output.specs.Traces.{Around}
use Rattle.node_print_laws.specs.Printed.{TookAll, TookSome}
use Rattle.homa_top.specs.declared.exit.ExitStatus.{ExitStatus}
use Rattle.homa_top.specs.declared.exit.ExitStatus.TheVariants.{Done, Refused, Stalled}
use Rattle.homa_top.specs.Exits.{is_broken_off}

-- the sink took lines; each has the shape of a trace and obeys all five laws
pub record TookLawful (old new : Option (List ℕ)) : Type 0 where
  pub lines : List PlainEntry
  pub taken : new ≡ appended old (flat_map line_text lines)
  pub obey : Holds Obeys nothing_seen lines

-- The sink took all lines of a node's run, if it came to an end. Otherwise it took the first of them whole, and perhaps a part of the next one.
-- If the net was honest in the lines that were taken whole, each of these has the shape and obeys all five laws.
pub record TookLawfulLines (bytes : List ℕ) (old new : Around) (status : ExitStatus) : Type 0 where
  pub all : (status ≡ Done) ⊎ (status ≡ Refused) ⊎ (status ≡ Stalled) → TookAll bytes old new
  pub some : is_broken_off status ≡ true → TookSome bytes old new
