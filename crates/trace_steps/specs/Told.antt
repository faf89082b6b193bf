-- What is so of a world and of the lines that were told of it: clocks, names, lives and packets.
use Rattle.std.specs.Prelude.{◌≡◌, ◌≤◌, ◌<◌, ℕ, ◌+◌, Some, length, map, slice_get, slice_index_or, unwrap_or}
use Rattle.std.specs.List.{AllByRecursion}
use Rattle.plain_sets.specs.Maps.{get}
use Rattle.homa_plain.specs.declared.id.CallId.{CallId}
use Rattle.homa_plain.specs.declared.id.HostId.{HostId}
use Rattle.homa_plain.specs.declared.settings.Settings.{Settings}
use Rattle.homa_plain.specs.Settings.{IsValid, accepted_life, band}
use Rattle.homa_plain.specs.Packets.{Packet, sender, receiver}
use Rattle.homa_plain.specs.Rows.{ClientRow}
use Rattle.homa_plain.specs.Host.{Host}
use Rattle.homa_plain.specs.World.{World, SentPacket, host_at}
use Rattle.step_moves.specs.Worlds.{HasClocks, IsDated, HasOwnName}
use Rattle.trace_rules.specs.View.{View, Sent, Ran, life, restarts_of}

-- ---- names and lives

-- The lives of a host by the lines: with each restart the incarnation rises by one. The first incarnation is told by the host's first packet,
-- if it sends one before it restarts.
pub record HasLives (v : View) (id : HostId) (h : Host) : Type 0 where
  pub first : ℕ
  pub now : h.inc ≡ first + life v id
  pub later : (n : ℕ) → n < life v id → slice_get (restarts_of v id) n ≡ Some (first + n + 1)
  pub told : (x : ℕ) → get v.firsts id.0 ≡ Some x → x ≡ first
  pub sent : AllByRecursion (λ (p : Sent). p.from ≡ id → p.inc ≡ first → get v.firsts id.0 ≡ Some first) v.packets

-- no run is of a life that is still to come
abbrev pub AllLived : View → Type 0
AllLived v = AllByRecursion (λ (r : Ran). r.life ≤ life v r.host) v.runs

-- ---- packets

-- a packet as its line has it
abbrev pub sent_of : Packet → Sent
sent_of p = record { from = sender p; to = receiver p; inc = p.inc; role = p.role; id = p.id; body = p.body; payload = p.payload }

-- ---- all of it

-- what the lines say is so of the world: settings, clocks, packets, and the names and lives of its hosts
pub record IsTold (s : Settings) (w : World) (v : View) : Type 0 where
  pub valid : IsValid s
  pub settings : v.settings ≡ s
  pub tick : v.tick ≡ w.clock
  pub leads : (id : HostId) → id.0 < length w.hosts → unwrap_or (get v.leads id.0) s.skew ≡ slice_index_or w.leads id.0 0
  pub packets : v.packets ≡ map (λ (p : SentPacket). sent_of p.packet) w.packets
  pub names : (id : HostId) (h : Host) → host_at w id ≡ Some h → HasOwnName id h
  pub lives : (id : HostId) (h : Host) → host_at w id ≡ Some h → HasLives v id h
  pub lived : AllLived v
  pub clocks : HasClocks s w
  pub dated : AllByRecursion (IsDated s) w.packets
