-- What holds of a world between two events: its clocks, and its hosts' names.
use Rattle.std.specs.Prelude.{◌≡◌, ◌≤◌, ℕ, ◌+◌, Option, None, Some, length, slice_index_or}
use Rattle.plain_sets.specs.Maps.{get}
use Rattle.homa_plain.specs.declared.id.CallId.{CallId}
use Rattle.homa_plain.specs.declared.id.HostId.{HostId}
use Rattle.homa_plain.specs.declared.settings.Settings.{Settings}
use Rattle.homa_plain.specs.Settings.{accepted_life, band}
use Rattle.homa_plain.specs.Rows.{ClientRow}
use Rattle.homa_plain.specs.Host.{Host}
use Rattle.homa_plain.specs.World.{World, SentPacket, host_at, own_clock}

-- ---- time

-- a host's own clock is at most a band ahead of the world's, never behind it, and never before that of its last step
pub record HasClocks (s : Settings) (w : World) : Type 0 where
  pub lead : (id : HostId) → slice_index_or w.leads id.0 0 ≤ band s
  pub last : (id : HostId) (h : Host) → host_at w id ≡ Some h → h.last ≤ own_clock w id
  pub each : length w.leads ≡ length w.hosts

-- the clock that a packet carries is at most a band ahead of the tick of its sending
abbrev pub IsDated : Settings → SentPacket → Type 0
IsDated s sent = sent.packet.at ≤ sent.tick + band s

-- a host takes a step at this tick by its own clock
pub record IsTimed (s : Settings) (w : World) (id : HostId) (h : Host) (now : ℕ) : Type 0 where
  pub stands : host_at w id ≡ Some h
  pub from : w.clock ≤ now
  pub within : now ≤ w.clock + band s
  pub last : h.last ≤ now

-- whether a packet may still be taken
abbrev pub IsFresh : Settings → World → SentPacket → Type 0
IsFresh s w sent = w.clock ≤ sent.tick + accepted_life s

-- a host has the number of its place, and as a client it has rows of its own calls alone
pub record HasOwnName (id : HostId) (h : Host) : Type 0 where
  pub name : h.id ≡ id
  pub own : (q : CallId) (r : ClientRow) → get h.clients q ≡ Some r → q.client ≡ id

-- a fact of a host, if there is such a host
abbrev pub at_host : {A : Type 0} → A → (Host → A) → Option Host → A
at_host none f None = none
at_host none f (Some h) = f h
