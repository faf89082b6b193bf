-- The calls that are still to be made, by what is known of them.
use Rattle.std.specs.Prelude.{◌≡◌, ◌<◌, ◌≤◌, ◌+◌, ◌-◌, ℕ, Option, Some, Result, Ok, Err, List, [], length}
use Rattle.homa_plain.specs.declared.fault.LineFault.TheVariants.{Script as ByWords, World as ByWorld}
use Rattle.homa_plain.specs.declared.fault.WorldFault.TheVariants.{NoSuchHost}
use Rattle.node_runs.specs.Script as script
use Rattle.node_runs.specs.Script.{Calls, with_call}
use Rattle.node_turns.specs.declared.stop.NodeStop.{NodeStop}
use Rattle.node_turns.specs.declared.stop.NodeStop.TheVariants.{Script, Host, Read}
use Rattle.script_lines.specs.Place.{IsCounted}
use Rattle.script_lines.specs.Read.{IsRead, IsCut}
use Rattle.node_script.specs.declared.setup.Setup.{Setup}
use Rattle.node_script.specs.declared.stop.CallStop.{CallStop}
use Rattle.node_script.specs.declared.stop.CallStop.TheVariants as call
use Rattle.node_script.specs.Setup.{call_seen}
use Rattle.node_script.specs.declared.timed.TimedCall.{TimedCall}
use Rattle.node_script.specs.Calls.{calls_left, no_calls, refused_at}
use Rattle.node_script.specs.Standing.{Standing}
use Rattle.homa_node.specs.declared.ahead.NextCall.{NextCall}
use Rattle.homa_node.specs.declared.ahead.NextCall.TheVariants.{Unread, Call, Ended}

-- the calls that are still to be made, where these bytes still come
abbrev pub calls_ahead : script.Setup → NextCall → Standing → List ℕ → Calls
calls_ahead s Unread r more = calls_left s r.least r.place more
calls_ahead s (Call c) r more = with_call (call_seen c r.operand) (calls_left s r.least r.place more)
calls_ahead s Ended r more = no_calls

-- the next line was read
abbrev pub IsLooked : NextCall → Type 0
IsLooked Unread = ⊥
IsLooked (Call c) = Unit {0}
IsLooked Ended = Unit {0}

-- a call's request is there, and so are its hosts; its tick is before the end; and a line may be read later
pub record IsCallable (s : Setup) (c : TimedCall) (r : Standing) : Type 0 where
  pub counted : IsCounted r.place
  pub fits : c.len ≤ length r.operand
  pub client : c.client.0 < length s.places.items
  pub server : c.server.0 < length s.places.items
  pub early : c.tick < s.end

-- a line may be read later, unless there is none
abbrev pub IsOpenAt : Setup → NextCall → Standing → Type 0
IsOpenAt s Unread r = IsCounted r.place
IsOpenAt s (Call c) r = IsCallable s c r
IsOpenAt s Ended r = Unit {0}

-- no call is due
abbrev pub IsIdle : NextCall → ℕ → Type 0
IsIdle Unread now = ⊥
IsIdle (Call c) now = now < c.tick
IsIdle Ended now = Unit {0}

-- so many steps were done: at most one for each call that was read and started, besides these
abbrev pub HasRoom : ℕ → ℕ → NextCall → Standing → Type 0
HasRoom most steps Unread r = steps ≤ most + r.place.read
HasRoom most steps (Call c) r = steps + 1 ≤ most + r.place.read
HasRoom most steps Ended r = steps ≤ most + r.place.limit

-- how many bytes may still be read, and whether any
abbrev pub lines_ahead : NextCall → Standing → ℕ
lines_ahead Unread r = 1 + (r.place.limit - r.place.read)
lines_ahead (Call c) r = 1 + (r.place.limit - r.place.read)
lines_ahead Ended r = 0

-- the input was read to its end, where there is no call
abbrev pub IsAllRead : NextCall → Option (List ℕ) → Type 0
IsAllRead Unread left = Unit {0}
IsAllRead (Call c) left = Unit {0}
IsAllRead Ended left = left ≡ Some []

-- why no call is next: a read failed, or the line is refused
abbrev pub look_stop : ℕ → CallStop → NodeStop
look_stop line (call.Read failed) = Read
look_stop line (call.Fault (ByWords fault)) = Script line fault
look_stop line (call.Fault (ByWorld fault)) = Host line

-- a read failed, or a line is refused
abbrev pub IsLookStop : NodeStop → Type 0
IsLookStop (Script line fault) = Unit {0}
IsLookStop (Host line) = Unit {0}
IsLookStop Read = Unit {0}
IsLookStop stop = ⊥

-- the same calls are to come, or the next line is refused, or a read failed
abbrev pub HasLooked : script.Setup → NextCall → Standing → NextCall → Standing → List ℕ → Option (List ℕ) → Result (Unit {0}) NodeStop → Type 0
HasLooked s old r new t bytes left (Ok u) = IsRead bytes left (calls_ahead s old r) (calls_ahead s new t) × (IsAllRead old (Some bytes) → IsAllRead new left)
HasLooked s old r new t bytes left (Err (Script line fault)) = IsRead bytes left (calls_ahead s old r) (λ more. refused_at line (ByWords fault))
HasLooked s old r new t bytes left (Err (Host line)) = IsRead bytes left (calls_ahead s old r) (λ more. refused_at line (ByWorld NoSuchHost))
HasLooked s old r new t bytes left (Err Read) = IsCut bytes left
HasLooked s old r new t bytes left (Err stop) = ⊥
