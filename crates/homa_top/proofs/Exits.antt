-- How the program ends where a command stopped.
use Rattle.std.proofs.Common.{◌≡◌, refl}
use Rattle.homa_replay.specs.declared.stop.Stop.{Stop}
use Rattle.homa_replay.specs.declared.stop.Stop.TheVariants.{Read, Write, NoMemory}
use Rattle.homa_replay.specs.Stops as stops
use Rattle.homa_top.specs.Exits.{prints_all, status_of}

-- what was printed are whole lines, or not
pub prints_same : (stop : Stop) → stops.prints_all stop ≡ prints_all (status_of stop)
prints_same Read = refl
prints_same Write = refl
prints_same NoMemory = refl
