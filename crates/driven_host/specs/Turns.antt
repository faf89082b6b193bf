-- Turns that do nothing, and ticks at which a turn may do something.
use Rattle.std.specs.Prelude.{◌≡◌, ◌≢◌, ◌⊎◌, ◌+◌, ◌≤◌, ℕ, nat_le, if◌then◌else◌, Option, Some, None, [], Contains}
use Rattle.homa_plain.specs.Limits.{last_host_tick}
use Rattle.homa_plain.specs.Timers.{Timer, timers}
use Rattle.homa_plain.specs.Credit.{refilled}
use Rattle.homa_plain.specs.Steps.{turn_step}
use Rattle.host_view.specs.Seen.{Seen, waiting}
use Rattle.host_books.specs.Granted.{due_grants}

-- a turn at this tick tells and sends nothing, and leaves the host as it is, but for its clock, and its credit where that is filled up
abbrev pub IsIdleTurn : Seen → ℕ → Type 0
IsIdleTurn h now = turn_step h.settings h.host now ≡ record { host = refilled h.settings (record h.host { last = now }); told = [] }

-- bytes of a message wait to be sent, and this is the tick after that of the last step
abbrev pub IsNextWithBytes : Seen → ℕ → Type 0
IsNextWithBytes h at = (at ≡ h.host.last + 1) × (waiting h.host ≢ [])

-- this is the deadline of a row
abbrev pub IsDeadline : Seen → ℕ → Type 0
IsDeadline h at = (t : Timer) × Contains (timers h.settings h.host) t × (t.at ≡ at)

-- a tick, unless it is past the last one
abbrev pub in_time : Option ℕ → Option ℕ
in_time None = None
in_time (Some at) = if nat_le at last_host_tick then Some at else None

-- why a turn at this tick may do something
abbrev pub MayAct : Seen → ℕ → Type 0
MayAct h at = IsNextWithBytes h at ⊎ IsDeadline h at

-- no GRANT is due, and the host's own clock hasn't passed its last tick
pub record IsAtRest (h : Seen) : Type 0 where
  pub clock : h.host.last ≤ last_host_tick
  pub granted : due_grants h.settings h.host ≡ []
