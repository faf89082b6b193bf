-- What the replay of a recording gives where services are `Suite`s.
use Rattle.std.specs.Prelude.{◌≡◌, ◌≤◌, ℕ, Some, List, length}
use Rattle.std.specs.List.{AllByRecursion}
use Rattle.homa_plain.specs.Rules.{Answer}
use Rattle.homa_plain.specs.Answers.{shown}
use Rattle.homa_plain.specs.Script.{most_bytes}
use Rattle.homa_plain.specs.Replay.{replay}
use Rattle.node_runs.specs.Script.{Setup, Calls, Opened, opening}
use Rattle.node_runs.specs.Course.{Receive, AreTicks, AreReceived, node_run}
use Rattle.node_runs.specs.Texts.{entries, recording_text, recording_status}
use Rattle.node_runs.specs.Replayed.{IsHere, IsAnswer}
use Rattle.record_laws.specs.Recordings.{IsReplayOf}
use Rattle.box_laws.specs.First.{AreAllowed}
use Rattle.answer_laws.specs.Answers.{MayAnswerSo, suite_allows}

-- Premises: all hosts of a node are local with incarnation 1, its services are `Suite`s, and its recording has status
-- 0. Then the replay of the recording's text tells the run again, whatever answers it shows that the same boxes may
-- give.
abbrev pub SuitesRepeat : Type 0
SuitesRepeat =
    (bytes : List ℕ) (setup : Setup) (calls : Calls) (boxes : List ℕ) (answers : List Answer) (ticks : List ℕ) (receives : List Receive)
    (those : List Answer)
    → opening most_bytes bytes ≡ Opened setup calls → AllByRecursion IsHere setup.places → 32 ≤ length boxes
    → AllByRecursion IsAnswer answers → AreTicks 0 ticks → AreReceived receives
    → let run = node_run bytes answers ticks receives in
    shown (entries run.reports) ≡ answers → AreAllowed (λ n. n) suite_allows boxes (entries run.reports)
    → recording_status run ≡ Some 0 → length (recording_text run) ≤ most_bytes
    → MayAnswerSo (λ n. n) suite_allows boxes (recording_text run) those
    → IsReplayOf run (replay (recording_text run) those (length boxes))
