-- What services answered, by what a run told, and a world whose services are still to answer.
use Rattle.std.specs.Prelude.{List, [], ◌∷◌}
use Rattle.homa_plain.specs.Entries.{PlainEntry, PlainRun}
use Rattle.homa_plain.specs.Rules.{Answer}
use Rattle.homa_plain.specs.World.{World}

-- the answers that the `run` lines show
abbrev pub shown : List PlainEntry → List Answer
shown [] = []
shown (PlainRun host id service request response hold ∷ told) = record { bytes = response; hold = hold } ∷ shown told
shown (entry ∷ told) = shown told

-- the world whose services will answer so
abbrev pub answering : List Answer → World → World
answering answers w = record w { answers = answers }
