-- How the program ends.
use Rattle.std.specs.Prelude.{ℕ, Bool, true, false, Result, Ok, Err}
use Rattle.homa_replay.specs.declared.stop.Stop.{Stop}
use Rattle.homa_replay.specs.declared.stop.Stop.TheVariants as stop
use Rattle.node_output.specs.declared.trace_end.NodeEnd.{NodeEnd}
use Rattle.node_output.specs.declared.trace_end.NodeEnd.TheVariants as end
use Rattle.node_output.specs.declared.trace_end.Broken.{Broken}
use Rattle.node_output.specs.declared.trace_end.Broken.TheVariants as broken
use Rattle.node_output.specs.declared.recording_end.Recorded.{Recorded}
use Rattle.node_output.specs.declared.recording_end.Recorded.TheVariants as how
use Rattle.homa_top.specs.declared.exit.ExitStatus.{ExitStatus}
use Rattle.homa_top.specs.declared.exit.ExitStatus.TheVariants.{Done, NoCommand, Refused, ReadFailed, WriteFailed, NoMemory, NetFailed, Stalled, Stranger}

-- the code of an exit status
abbrev pub code : ExitStatus → ℕ
code Done = 0
code NoCommand = 1
code Refused = 2
code ReadFailed = 3
code WriteFailed = 4
code NoMemory = 5
code NetFailed = 6
code Stalled = 7
code Stranger = 8

-- the command was broken off, by a fault or because there was no memory
abbrev pub is_broken_off : ExitStatus → Bool
is_broken_off ReadFailed = true
is_broken_off WriteFailed = true
is_broken_off NoMemory = true
is_broken_off NetFailed = true
is_broken_off other = false

-- the sink didn't fail, so the output is whole lines
abbrev pub prints_all : ExitStatus → Bool
prints_all WriteFailed = false
prints_all other = true

-- the status of a command that stopped
abbrev pub status_of : Stop → ExitStatus
status_of stop.Read = ReadFailed
status_of stop.Write = WriteFailed
status_of stop.NoMemory = NoMemory

-- the status of a node's run that came to this end, or was broken off
abbrev pub status_of_node : Result NodeEnd Broken → ExitStatus
status_of_node (Ok (end.Ended turns)) = Done
status_of_node (Ok (end.Refused line fault)) = Refused
status_of_node (Ok (end.Stalled turns now)) = Stalled
status_of_node (Err broken.Read) = ReadFailed
status_of_node (Err broken.Write) = WriteFailed
status_of_node (Err broken.Net) = NetFailed
status_of_node (Err broken.NoMemory) = NoMemory

-- the status of a recording that ended so
abbrev pub status_of_recorded : Recorded → ExitStatus
status_of_recorded how.Done = Done
status_of_recorded how.Refused = Refused
status_of_recorded how.Stalled = Stalled
status_of_recorded how.Stranger = Stranger
status_of_recorded how.ReadFailed = ReadFailed
status_of_recorded how.WriteFailed = WriteFailed
status_of_recorded how.NetFailed = NetFailed
status_of_recorded how.NoMemory = NoMemory
