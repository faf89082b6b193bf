-- The verdict on a node's text: the law, stated; it is proved in this crate.
use Rattle.std.specs.Prelude.{◌≡◌, ◌≤◌, ◌<◌, ◌^◌, ℕ, IfSome, List, length}
use Rattle.std.specs.List.{AllByRecursion}
use Rattle.homa_plain.specs.Rules.{Answer}
use Rattle.homa_plain.specs.Script.{most_bytes}
use Rattle.node_runs.specs.Script.{Setup, Calls, Opened, opening}
use Rattle.node_runs.specs.Course.{AreTicks, Arrival, Receive, IsReceived, Run, node_run}
use Rattle.node_runs.specs.Recorder.{no_notes}
use Rattle.node_runs.specs.Replayed.{IsAnswer}
use Rattle.node_runs.specs.Texts.{node_text}
use Rattle.check_verdict.specs.Text.{IsTrace}
use Rattle.check_verdict.specs.Verdict.{verdict_of, Yes}
use Rattle.homa_plain.specs.Limits.{longest_input}
use Rattle.node_trace_laws.specs.Honest.{AreHonest, lines}

-- a net gives bytes, at most 1,500 of them, from a host whose number has 16 bits
pub record IsHandedUp (a : Arrival) : Type 0 where
  pub is : IsReceived a
  pub host : a.from.0 < 2 ^ 16

-- each of these receives that gave something gave such bytes, from such a host
abbrev pub AreHandedUp : List Receive → Type 0
AreHandedUp receives = AllByRecursion (λ (r : Receive). IfSome r.got IsHandedUp) receives

-- the text is a trace of as many lines as the run has, and the verdict on it is yes
pub record IsTraceOf (run : Run) : Type 0 where
  pub trace : IsTrace (node_text run) (length (lines run))
  pub verdict : verdict_of (node_text run) ≡ Yes (length (lines run))

-- if a node's net gives such datagrams and is honest, its text is a trace, unless it is longer than an input may be
abbrev pub NodeTextsAreTraces : Type 0
NodeTextsAreTraces =
    (bytes : List ℕ) (setup : Setup) (calls : Calls) (answers : List Answer) (ticks : List ℕ) (receives : List Receive)
    → opening most_bytes bytes ≡ Opened setup calls → AllByRecursion IsAnswer answers → AreTicks 0 ticks → AreHandedUp receives
    → let run = node_run bytes answers ticks receives in
    AreHonest no_notes (lines run) → length (node_text run) ≤ longest_input → IsTraceOf run
