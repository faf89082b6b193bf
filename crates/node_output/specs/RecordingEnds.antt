-- How a node that was recorded ended, and what was printed of that.
use Rattle.std.specs.Prelude.{◌≡◌, ◌⊎◌, ℕ, Option, None, Some, Result, Ok, Err, List}
use Rattle.homa_io.specs.Outside.{HasRisen, appended, TookFront}
use Rattle.homa_plain.specs.declared.fault.LineFault.TheVariants.{Script as ByWords, World as ByWorld}
use Rattle.homa_plain.specs.declared.fault.WorldFault.TheVariants.{NoSuchHost, Start as CantStart}
use Rattle.node_io.specs.declared.observer.SeenFault.TheVariants as seen
use Rattle.node_runs.specs.Course.{End, Ended, RefusedAt, StalledAt}
use Rattle.node_runs.specs.Texts.{recorded_end}
use Rattle.node_turns.specs.Faults.{Counts}
use Rattle.node_turns.specs.declared.stop.NodeStop.{NodeStop}
use Rattle.node_turns.specs.declared.stop.NodeStop.TheVariants as stop
use Rattle.node_output.specs.declared.recording_end.Recorded.{Recorded}
use Rattle.node_output.specs.declared.recording_end.Recorded.TheVariants.{Done, Refused, Stalled, Stranger, ReadFailed, WriteFailed, NetFailed, NoMemory}

-- the end of a node's run, if it came to one
abbrev pub end_of : Result ℕ NodeStop → Option End
end_of (Ok turns) = Some (Ended turns)
end_of (Err (stop.Script line fault)) = Some (RefusedAt line (ByWords fault))
end_of (Err (stop.Start line fault)) = Some (RefusedAt line (ByWorld (CantStart fault)))
end_of (Err (stop.Host line)) = Some (RefusedAt line (ByWorld NoSuchHost))
end_of (Err (stop.Stalled turns now)) = Some (StalledAt turns now)
end_of (Err why) = None

-- how the recording ends, if its last line was printed or there is none
abbrev pub status_of : Result ℕ NodeStop → Recorded
status_of (Ok turns) = Done
status_of (Err (stop.Script line fault)) = Refused
status_of (Err (stop.Start line fault)) = Refused
status_of (Err (stop.Host line)) = Refused
status_of (Err (stop.Stalled turns now)) = Stalled
status_of (Err (stop.Seen seen.Stranger)) = Stranger
status_of (Err (stop.Seen (seen.Write failed))) = WriteFailed
status_of (Err (stop.Seen seen.NoMemory)) = NoMemory
status_of (Err stop.Read) = ReadFailed
status_of (Err stop.Net) = NetFailed
status_of (Err stop.NoMemory) = NoMemory

-- if a node came to an end, its last line was printed, or a prefix of it if the sink failed; otherwise nothing is printed
abbrev pub PutsEnd : Option (List ℕ) → Option (List ℕ) → ℕ → ℕ → Result ℕ NodeStop → Recorded → Option End → Type 0
PutsEnd old new faults later served result None = (new ≡ old) × (later ≡ faults) × (result ≡ status_of served)
PutsEnd old new faults later served result (Some end) =
    ((new ≡ appended old (recorded_end end)) × (later ≡ faults) × (result ≡ status_of served))
    ⊎ (TookFront old new (recorded_end end) × HasRisen faults later × (result ≡ WriteFailed))

-- the count of the object at fault rose, if one is at fault; the others are as before
abbrev pub HaveFaults : Counts → Counts → Recorded → Type 0
HaveFaults old new ReadFailed = HasRisen old.source new.source × (new.net ≡ old.net) × (new.sink ≡ old.sink)
HaveFaults old new NetFailed = HasRisen old.net new.net × (new.source ≡ old.source) × (new.sink ≡ old.sink)
HaveFaults old new WriteFailed = HasRisen old.sink new.sink × (new.source ≡ old.source) × (new.net ≡ old.net)
HaveFaults old new result = new ≡ old
