-- The hosts and the calls that a host's rows name are such as there are.
use Rattle.std.specs.Prelude.{◌≡◌, ◌<◌, ◌≤◌, ℕ, IfSome, Some}
use Rattle.plain_sets.specs.Maps.{get}
use Rattle.homa_plain.specs.declared.id.CallId.{CallId}
use Rattle.homa_plain.specs.declared.settings.Settings.{Settings}
use Rattle.homa_plain.specs.Incoming.{Incoming}
use Rattle.homa_plain.specs.Rows.{ClientRow, ServerRow, State, Receiving, Held, Replying, Buried}
use Rattle.homa_plain.specs.Host.{Host}

-- a call's row at its client: its server and the sender of its response are among so many hosts
pub record KnowsServer (hosts : ℕ) (r : ClientRow) : Type 0 where
  pub server : r.server.0 < hosts
  pub sender : IfSome r.part (λ (p : Incoming). p.peer.0 < hosts)

-- the sender of a request that arrives is among so many hosts
abbrev pub KnowsSender : ℕ → State → Type 0
KnowsSender hosts (Receiving service part base count) = part.peer.0 < hosts
KnowsSender hosts (Held response release) = Unit {0}
KnowsSender hosts (Replying response out order base count) = Unit {0}
KnowsSender hosts (Buried until) = Unit {0}

-- a call's row at its server, likewise; a call's incarnation is at least 1
pub record KnowsClient (hosts : ℕ) (id : CallId) (row : ServerRow) : Type 0 where
  pub client : id.client.0 < hosts
  pub life : 1 ≤ id.inc
  pub sender : KnowsSender hosts row.state

-- and the calls that the host made are its own, of its present life
pub record KnowsPeers (s : Settings) (h : Host) : Type 0 where
  pub clients : (id : CallId) (r : ClientRow) → get h.clients id ≡ Some r → KnowsServer s.hosts r
  pub own : (id : CallId) (r : ClientRow) → get h.clients id ≡ Some r → (id.client ≡ h.id) × (id.inc ≡ h.inc)
  pub servers : (id : CallId) (row : ServerRow) → get h.servers id ≡ Some row → KnowsClient s.hosts id row
