-- The calls whose tick has come, as parts of the plain course, whatever calls stand behind them.
use Rattle.std.specs.Prelude.{◌≡◌, ℕ, ◌++◌, None, Some, Result, Ok, Err, List, [], ◌∷◌}
use Rattle.homa_plain.specs.declared.settings.Settings.{Settings}
use Rattle.node_runs.specs.Script.{TimedCall, Calls, with_call}
use Rattle.homa_plain.specs.declared.fault.StartFault.{StartFault}
use Rattle.homa_plain.specs.declared.fault.LineFault.TheVariants.{World as ByWorld}
use Rattle.homa_plain.specs.declared.fault.WorldFault.TheVariants.{Start as CantStart}
use Rattle.homa_plain.specs.Rules.{Answer}
use Rattle.homa_plain.specs.World.{World}
use Rattle.node_runs.specs.Course.{Report, Receive, GoesOn, Stops, RefusedAt, starts}
use Rattle.homa_plain.specs.Answers.{answering}
use Rattle.node_turns.specs.Acting.{Part, node_at, IsMidst}
use Rattle.node_turns.specs.declared.stop.NodeStop.{NodeStop}
use Rattle.node_turns.specs.declared.stop.NodeStop.TheVariants.{Start}
use Rattle.node_script.specs.declared.timed.TimedCall.{TimedCall as Call}

-- these calls in front of others
abbrev pub with_calls : List TimedCall → Calls → Calls
with_calls done rest = record rest { calls = done ++ rest.calls }

-- These calls are due, and then those of the node. A node's own field for calls is out of date while they are started: it is `held`.
abbrev pub starting : Settings → Calls → List TimedCall → Part
starting s held due left node = starts s node.calls.refused (due ++ node.calls.calls) (record node { receives = left; calls = held })

-- this call isn't due yet, and those of the node stand behind it
abbrev pub waiting : TimedCall → Part
waiting c left node = GoesOn (record node { receives = left; calls = with_call c node.calls })

-- no call is left
abbrev pub all_started : Part
all_started left node = GoesOn (record node { receives = left; calls = record { calls = []; refused = None } })

-- a call with its request, as the definitions have it
abbrev pub called : Call → List ℕ → TimedCall
called c request = record { line = c.line; tick = c.tick; client = c.client; server = c.server; service = c.service; bytes = request }

-- a fact of a call that can't start
abbrev pub OnStart : Result (Unit {0}) NodeStop → (ℕ → StartFault → Type 0) → Type 0
OnStart (Ok u) fact = Unit {0}
OnStart (Err (Start line fault)) fact = fact line fault
OnStart (Err stop) fact = Unit {0}

-- a fact where a call was begun and stopped
abbrev pub OnCut : Result (Unit {0}) NodeStop → Type 0 → Type 0
OnCut (Ok u) fact = Unit {0}
OnCut (Err (Start line fault)) fact = Unit {0}
OnCut (Err stop) fact = fact

-- a call can't start, or the hosts stopped in the midst of it
abbrev pub IsCallStop : NodeStop → Type 0
IsCallStop (Start line fault) = Unit {0}
IsCallStop stop = IsMidst stop

-- the course ends at this call, whatever is answered, received and called later
abbrev pub StopsAt : Settings → Calls → TimedCall → World → ℕ → StartFault → Type 0
StopsAt s held c w line fault =
    (first : List Report) (later : List Answer) (calls : Calls) (left held2 : List Receive)
    → starting s held (c ∷ []) left (node_at (answering later w) first calls held2)
    ≡ Stops (node_at (answering later w) first held left) (Some (RefusedAt line (ByWorld (CantStart fault))))
