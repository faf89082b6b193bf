-- The lifetime invariant of a world and of the lines that were told of it: each call at each host, each packet, each call that is still to be acknowledged.
use Rattle.std.specs.Prelude.{ℕ, []}
use Rattle.std.specs.List.{AllByRecursion}
use Rattle.homa_plain.specs.declared.id.CallId.{CallId}
use Rattle.homa_plain.specs.declared.id.HostId.{HostId}
use Rattle.homa_plain.specs.declared.settings.Settings.{Settings}
use Rattle.homa_plain.specs.Packets.{acks}
use Rattle.homa_plain.specs.Host.{finished_at}
use Rattle.trace_rules.specs.View.{View}
use Rattle.homa_plain.specs.World.{World, SentPacket, host_at}
use Rattle.trace_steps.specs.Stands.{Stand, stand}
use Rattle.step_moves.specs.Worlds.{at_host}
use Rattle.trace_once.specs.Lifetime.{times, IsOver, Fits, Lifetime}

-- a packet, where each call stands so at each host: it fits its call, and the calls that it acknowledges are over
pub record PacketFits (s : Settings) (v : CallId → HostId → Stand) (p : SentPacket) : Type 0 where
  pub fits : Fits (times s) p.packet.server (v p.packet.id p.packet.server) p.tick p.packet.role p.packet.body p.packet.payload
  pub acked : AllByRecursion (λ q. IsOver p.packet.server (v q p.packet.server)) (acks p.packet)

-- a call of a client, by its incarnation and number
abbrev pub call_of : HostId → ℕ × ℕ → CallId
call_of client c = record { client = client; inc = c.0; seq = c.1 }

-- each call at each host has the invariant, each packet fits its call, and each call still to be acknowledged is over
pub record IsKept (s : Settings) (w : World) (v : View) : Type 0 where
  pub calls : (q : CallId) (n : HostId) → Lifetime (times s) n (stand w v q n)
  pub packets : AllByRecursion (PacketFits s (stand w v)) w.packets
  pub finished : (n m : HostId) → AllByRecursion (λ (c : ℕ × ℕ). IsOver m (stand w v (call_of n c) m)) (at_host [] (λ h. finished_at h m) (host_at w n))
