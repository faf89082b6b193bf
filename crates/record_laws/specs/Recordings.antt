-- What the replay of a recording's text gives.
use Rattle.std.specs.Prelude.{◌≡◌, ◌≤◌, ℕ, Some, List, length}
use Rattle.std.specs.List.{AllByRecursion}
use Rattle.homa_plain.specs.Rules.{Answer}
use Rattle.homa_plain.specs.Script.{most_bytes}
use Rattle.homa_plain.specs.Replay.{Replay, Finished, replay}
use Rattle.node_runs.specs.Script.{Setup, Calls, Opened, opening}
use Rattle.node_runs.specs.Course.{Receive, AreTicks, AreReceived, Run, node_run}
use Rattle.node_runs.specs.Texts.{entries, recording_text, recording_status}
use Rattle.node_runs.specs.Replayed.{of_hosts, IsHere, IsAnswer}

-- a replay tells what a run told, the clock's lines, those of datagrams that come and the last one aside, and nothing of it is refused
pub record IsReplayOf (run : Run) (r : Replay) : Type 0 where
  pub told : of_hosts r.told ≡ of_hosts (entries run.reports)
  pub events : ℕ
  pub end : r.end ≡ Finished events

-- where all hosts of a node are local with incarnation 1, and its recording has status 0, the replay of the recording's text is one of the run
abbrev pub TextsRepeat : Type 0
TextsRepeat =
    (bytes : List ℕ) (setup : Setup) (calls : Calls) (answers : List Answer) (ticks : List ℕ) (receives : List Receive) (boxes : ℕ)
    → opening most_bytes bytes ≡ Opened setup calls → AllByRecursion IsHere setup.places
    → AllByRecursion IsAnswer answers → AreTicks 0 ticks → AreReceived receives
    → let run = node_run bytes answers ticks receives in
    recording_status run ≡ Some 0 → length (recording_text run) ≤ most_bytes
    → IsReplayOf run (replay (recording_text run) answers boxes)
