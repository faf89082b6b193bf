-- What a source does that writes what is held before each read.
use Rattle.std.specs.Prelude.{◌≡◌, ◌≤◌, ℕ, Option, None, Some, List, []}
use Rattle.homa_io.specs.Outside.{HasRisen}
use Rattle.homa_replay.specs.declared.stop.Stop.{Stop}
use Rattle.homa_replay.specs.declared.stop.Stop.TheVariants.{Read, Write, NoMemory}

-- why it stopped, if it did, how many faults it, its source and its sink had, and what its sink holds
pub record Counts : Type 0 where
  pub stop : Option Stop
  pub own : ℕ
  pub source : ℕ
  pub sink : ℕ
  pub held : List ℕ

-- no further fault of the source or the sink
pub record IsQuiet (old new : Counts) : Type 0 where
  pub source : new.source ≡ old.source
  pub sink : new.sink ≡ old.sink

-- the one fault after which it stopped, which it counts; a fault of the source finds nothing held
abbrev pub IsStop : Counts → Counts → Option Stop → Type 0
IsStop old new None = IsQuiet old new × (new.own ≡ old.own)
IsStop old new (Some Read) = HasRisen old.source new.source × (new.sink ≡ old.sink) × (new.held ≡ []) × HasRisen old.own new.own
IsStop old new (Some Write) = HasRisen old.sink new.sink × (new.source ≡ old.source) × HasRisen old.own new.own
IsStop old new (Some NoMemory) = ⊥

-- it goes on to its first fault, and after that the source and the sink stay
abbrev pub IsHeeded : Counts → Counts → Option Stop → Type 0
IsHeeded old new None = IsStop old new new.stop
IsHeeded old new (Some stop) = IsQuiet old new × (new.stop ≡ Some stop) × (new.held ≡ old.held) × (old.own ≤ new.own)
