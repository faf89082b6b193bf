-- What every trace obeys: grants go to the messages that are chosen, and never beyond the window. The choice itself is in
-- `homa_plain/specs/Grants`.
use Rattle.std.specs.Prelude.{◌≡◌, ℕ, ◌+◌, ◌≤◌, ◌&&◌, true, Option, None, Some, List, ◌++◌, map, filter, Contains}
use Rattle.plain_sets.specs.Maps.{entries, get, len}
use Rattle.homa_plain.specs.declared.id.CallId.{CallId}
use Rattle.homa_plain.specs.declared.id.HostId.{HostId}
use Rattle.homa_plain.specs.declared.packet.Role.{Role}
use Rattle.homa_plain.specs.declared.packet.Role.TheVariants.{Client, Server}
use Rattle.homa_plain.specs.declared.packet.Body.{Body}
use Rattle.homa_plain.specs.declared.packet.Body.TheVariants as body
use Rattle.homa_plain.specs.Entries.{PlainEntry, PlainSend}
use Rattle.homa_plain.specs.Grants.{Message, Granted, grants}
use Rattle.homa_plain.specs.Calls.{is_host}
use Rattle.trace_rules.specs.Parts.{Part, Parts, is_message}
use Rattle.trace_rules.specs.View.{Progress, View}
use Rattle.trace_rules.specs.Seen.{seen}

-- a part, and the role of the host at which it arrives
pub record Arriving : Type 0 where
  pub role : Role
  pub id : CallId
  pub part : Part

-- what the choice sees of a part
abbrev pub message : Arriving → Message
message x = record { peer = x.part.peer; length = x.part.length; arrived = len x.part.arrived; granted = x.part.granted; order = x.part.order }

-- parts that arrive at hosts of one role
abbrev pub arriving : Role → Parts → List Arriving
arriving role parts = map (λ e. record { role = role; id = e.0; part = e.1 }) (entries parts)

-- the incoming messages of a host: requests at it as a server, and responses of its live calls
abbrev pub incoming : Progress → HostId → List Arriving
incoming m host = filter (λ x. is_host x.part.host host && is_message x.part) (arriving Server m.requests ++ arriving Client m.responses)

-- a GRANT, as its line shows it
pub record Grant : Type 0 where
  pub to : HostId
  pub role : Role
  pub id : CallId
  pub offset : ℕ
  pub prio : ℕ

-- a GRANT to a message, as its line shows it
abbrev pub told : Granted Arriving → Grant
told g = record { to = g.to.part.peer; role = g.to.role; id = g.to.id; offset = g.offset; prio = g.prio }

-- the GRANTs that a host may send in a step, if these are its messages then
unfoldable pub allowed : View → HostId → List Grant
allowed v host = map told (grants message v.settings.overcommit v.settings.window (incoming v.now host))

-- if a packet is a GRANT, it is one of these
abbrev pub IsAllowed : View → HostId → HostId → Role → CallId → Body → Type 0
IsAllowed v from to role id (body.Grant offset prio) = Contains (allowed v from) (record { to = to; role = role; id = id; offset = offset; prio = prio })
IsAllowed v from to role id other = Unit {0}

-- no more than a window is granted of a message beyond as many bytes as have arrived
abbrev pub IsWithinAt : ℕ → Option Part → Type 0
IsWithinAt window None = Unit {0}
IsWithinAt window (Some p) = is_message p ≡ true → p.granted ≤ len p.arrived + window

-- each message is within its window
abbrev pub IsWithin : View → Type 0
IsWithin v = (id : CallId) → IsWithinAt v.settings.window (get v.now.requests id) × IsWithinAt v.settings.window (get v.now.responses id)

-- Granting. Each GRANT is to a chosen message, with its new end, which exceeds its granted end.
-- After each line each message is within its window.
abbrev pub Granting : View → PlainEntry → Type 0
Granting v (PlainSend number from to inc role id level body payload) =
    IsAllowed v from to role id body × IsWithin (seen v (PlainSend number from to inc role id level body payload))
Granting v line = IsWithin (seen v line)
