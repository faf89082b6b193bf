-- What stops a command.
use Rattle.std.specs.Prelude.{Bool, true, false}
use Rattle.homa_replay.specs.declared.stop.Stop.{Stop}
use Rattle.homa_replay.specs.declared.stop.Stop.TheVariants.{Read, Write, NoMemory}

-- it isn't the sink: what was printed are whole lines
abbrev pub prints_all : Stop → Bool
prints_all Read = true
prints_all Write = false
prints_all NoMemory = true
