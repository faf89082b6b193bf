-- The counts of a source that writes what is held before each read.
use Rattle.std.specs.Prelude.{ℕ, Option, List}
use Rattle.homa_replay.specs.declared.stop.Stop.{Stop}
use Rattle.homa_replay.specs.Ahead.{Counts}

-- why it stopped, if it did, how many faults it, its source and its sink had, and what its sink holds
abbrev pub counts : Option Stop → ℕ → ℕ → ℕ → List ℕ → Counts
counts stop own source sink held = record { stop = stop; own = own; source = source; sink = sink; held = held }
