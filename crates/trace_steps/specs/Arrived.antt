-- What is so of what has arrived: the same by the hosts' rows and by the lines.
use Rattle.std.specs.Prelude.{◌≡◌, ◌<◌, ◌≤◌, ℕ, ◌+◌, false, Option, None, Some, List, length}
use Rattle.plain_sets.specs.Maps.{len, IsPartOf}
use Rattle.homa_plain.specs.declared.id.HostId.{HostId}
use Rattle.homa_plain.specs.declared.settings.Settings.{Settings}
use Rattle.homa_plain.specs.Incoming.{Incoming, arrived, IsSound}
use Rattle.trace_rules.specs.Parts.{Part, Parts, is_message}
use Rattle.trace_rules.specs.Parts as parts

-- ---- one message

-- a message of which maybe nothing has arrived: as its host h has it, and as the lines have it
pub record IsNearly (s : Settings) (h : HostId) (message : List ℕ) (p : Incoming) (q : Part) : Type 0 where
  pub at : q.host ≡ h
  pub peer : p.peer ≡ q.peer
  pub long : p.length ≡ q.length
  pub size : p.length ≡ length message
  pub there : arrived p ≡ q.arrived
  pub granted : p.granted ≡ q.granted
  pub window : q.granted ≤ len q.arrived + s.window
  pub sound : IsSound p
  pub bytes : IsPartOf p.bytes message

-- some of it has arrived, and not all
pub record IsSamePart (s : Settings) (h : HostId) (message : List ℕ) (p : Incoming) (q : Part) : Type 0 where
  pub near : IsNearly s h message p q
  pub some : 0 < len q.arrived
  pub missing : parts.is_whole q ≡ false

-- by the lines it is no incoming message
abbrev pub NoMessage : Option Part → Type 0
NoMessage None = Unit {0}
NoMessage (Some q) = is_message q ≡ false
