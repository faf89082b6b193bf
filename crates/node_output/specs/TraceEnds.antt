-- How a node's run ended, as its last line says, or why it was broken off.
use Rattle.std.specs.Prelude.{◌≡◌, ℕ, Result, Ok, Err}
use Rattle.homa_io.specs.Outside.{HasRisen}
use Rattle.homa_plain.specs.declared.fault.LineFault.TheVariants.{Script as ByWords, World as ByWorld}
use Rattle.homa_plain.specs.declared.fault.WorldFault.TheVariants.{NoSuchHost, Start as CantStart}
use Rattle.homa_plain.specs.Entries.{IsCause}
use Rattle.node_runs.specs.Course as run
use Rattle.node_io.specs.declared.observer.SeenFault.TheVariants as seen
use Rattle.node_turns.specs.Faults.{Counts}
use Rattle.node_turns.specs.declared.stop.NodeStop.{NodeStop}
use Rattle.node_turns.specs.declared.stop.NodeStop.TheVariants as stop
use Rattle.node_output.specs.declared.trace_end.NodeEnd.{NodeEnd}
use Rattle.node_output.specs.declared.trace_end.NodeEnd.TheVariants.{Ended, Refused, Stalled}
use Rattle.node_output.specs.declared.trace_end.Broken.{Broken}
use Rattle.node_output.specs.declared.trace_end.Broken.TheVariants.{Read, Write, Net, NoMemory}

-- an end, as the definitions have it
abbrev pub end_seen : NodeEnd → run.End
end_seen (Ended turns) = run.Ended turns
end_seen (Refused line fault) = run.RefusedAt line fault
end_seen (Stalled turns now) = run.StalledAt turns now

-- this end has a last line
abbrev pub IsTold : NodeEnd → Type 0
IsTold (Ended turns) = Unit {0}
IsTold (Refused line fault) = IsCause fault
IsTold (Stalled turns now) = Unit {0}

-- the end of a node's run, or why it was broken off; a printer takes no datagram for foreign
abbrev pub end_told : Result ℕ NodeStop → Result NodeEnd Broken
end_told (Ok turns) = Ok (Ended turns)
end_told (Err (stop.Script line fault)) = Ok (Refused line (ByWords fault))
end_told (Err (stop.Start line fault)) = Ok (Refused line (ByWorld (CantStart fault)))
end_told (Err (stop.Host line)) = Ok (Refused line (ByWorld NoSuchHost))
end_told (Err (stop.Stalled turns now)) = Ok (Stalled turns now)
end_told (Err stop.Read) = Err Read
end_told (Err stop.Net) = Err Net
end_told (Err (stop.Seen (seen.Write failed))) = Err Write
end_told (Err (stop.Seen seen.NoMemory)) = Err NoMemory
end_told (Err (stop.Seen seen.Stranger)) = Err NoMemory
end_told (Err stop.NoMemory) = Err NoMemory

-- the count of the object at fault rose, if one is at fault; the others are as before
abbrev pub HaveFaults : Counts → Counts → Result NodeEnd Broken → Type 0
HaveFaults old new (Ok end) = new ≡ old
HaveFaults old new (Err Read) = HasRisen old.source new.source × (new.net ≡ old.net) × (new.sink ≡ old.sink)
HaveFaults old new (Err Net) = HasRisen old.net new.net × (new.source ≡ old.source) × (new.sink ≡ old.sink)
HaveFaults old new (Err Write) = HasRisen old.sink new.sink × (new.source ≡ old.source) × (new.net ≡ old.net)
HaveFaults old new (Err NoMemory) = new ≡ old
