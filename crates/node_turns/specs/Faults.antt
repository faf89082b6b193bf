-- Which count of faults rose when a node stopped.
use Rattle.std.specs.Prelude.{◌≡◌, ℕ, Result, Ok, Err}
use Rattle.homa_io.specs.Outside.{HasRisen}
use Rattle.node_io.specs.declared.observer.SeenFault.TheVariants.{Write}
use Rattle.node_turns.specs.declared.stop.NodeStop.{NodeStop}
use Rattle.node_turns.specs.declared.stop.NodeStop.TheVariants.{Read, Net, Seen}

-- the counts of the source, the net and the observer's sink
pub record Counts : Type 0 where
  pub source : ℕ
  pub net : ℕ
  pub sink : ℕ

abbrev pub counts : ℕ → ℕ → ℕ → Counts
counts source net sink = record { source = source; net = net; sink = sink }

-- one count rose where it was its fault, and the others are as before
abbrev pub AreFaults : {A : Type 0} → Counts → Counts → Result A NodeStop → Type 0
AreFaults old new (Ok x) = new ≡ old
AreFaults old new (Err Read) = HasRisen old.source new.source × (new.net ≡ old.net) × (new.sink ≡ old.sink)
AreFaults old new (Err Net) = HasRisen old.net new.net × (new.source ≡ old.source) × (new.sink ≡ old.sink)
AreFaults old new (Err (Seen (Write failed))) = HasRisen old.sink new.sink × (new.source ≡ old.source) × (new.net ≡ old.net)
AreFaults old new (Err stop) = new ≡ old
