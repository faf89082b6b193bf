-- A generated run: rounds of a tick, of what the fabric hands over, and of new calls.
use Rattle.std.specs.Prelude.{ℕ, zero, suc, ◌+◌, ◌-◌, ◌&&◌, ◌==◌, Bool, nat_le, if◌then◌else◌, Option, None, Some, List, [], ◌∷◌, ◌++◌, drop, length}
use Rattle.std.specs.Prelude.{map, replicate}
use Rattle.std.specs.List.{list_all}
use Rattle.plain_sets.specs.Maps.{len}
use Rattle.homa_plain.specs.declared.settings.Settings.{Settings}
use Rattle.homa_plain.specs.declared.event.Event.TheVariants as event
use Rattle.homa_plain.specs.Entries.{PlainEntry}
use Rattle.homa_plain.specs.Packets.{receiver, datagram}
use Rattle.homa_plain.specs.Host.{Host}
use Rattle.homa_plain.specs.Rules.{Answer}
use Rattle.homa_plain.specs.Script.{Given, GivenEvent, GivenTicks, counting}
use Rattle.homa_plain.specs.World.{World, SentPacket, new_world, host_at}
use Rattle.homa_plain.specs.Replay.{carried, events_of}
use Rattle.generated_runs.specs.Draws.{Traffic, seeded, next_traffic}
use Rattle.generated_runs.specs.Fabric.{Fabric, new_fabric, destination, sent, refilled, next_of, after_next}

-- a run so far
pub record Generated : Type 0 where
  pub world : World
  pub told : List PlainEntry
  pub lines : List Given  -- what its schedule's lines stand for
  pub fabric : Fabric
  pub made : ℕ  -- how many calls were made; one that was skipped counts
  pub left : ℕ  -- how many are still to be made

-- a run of a seed and so many calls, of which nothing has happened
abbrev pub first_generated : Settings → ℕ → ℕ → ℕ → List Answer → Generated
first_generated s seed calls boxes answers = record {
  world = new_world s (replicate s.hosts 1) 0 boxes answers;
  told = [];
  lines = [];
  fabric = new_fabric s.hosts (seeded seed);
  made = 0;
  left = calls;
}

-- the packets with numbers from n on enter the fabric
abbrev pub all_sent : Settings → ℕ → List SentPacket → Fabric → Fabric
all_sent s n [] f = f
all_sent s n (x ∷ xs) f =
    all_sent s (suc n) xs (sent f (receiver x.packet).0 x.packet.level (record { number = n; size = length (datagram s x.packet); tick = x.tick }))

-- a line of the schedule is carried out, and the packets that it sends enter the fabric
abbrev pub with_line : Settings → Given → Generated → Generated
with_line s line g =
    let run = carried s g.world (events_of s.hosts line) in
    let before = length g.world.packets in
    record g {
      world = run.world;
      told = g.told ++ run.told;
      lines = g.lines ++ line ∷ [];
      fabric = all_sent s before (drop before run.world.packets) g.fabric;
    }

-- ---- a round

-- a host gets packets until its round ends. No frame is empty, so there are at most twice as many as there are bytes.
abbrev pub most_handed : ℕ
most_handed = 32000

-- a host's round, in which it is handed at most so many packets
unfoldable pub host_round : ℕ → Settings → ℕ → Generated → Generated
host_round zero s to g = g
host_round (suc n) s to g =
    let h = next_of s.life g.world.clock (destination g.fabric to) g.fabric.random in
    let after = record g { fabric = after_next g.fabric to h } in
    elim (h.number) [
      | None ↦ after
      | Some number ↦ host_round n s to (with_line s (GivenEvent (event.Deliver number) []) after)
    ]

-- so many hosts, from one on
unfoldable pub hosts_round : Settings → ℕ → ℕ → Generated → Generated
hosts_round s to zero g = g
hosts_round s to (suc hosts) g = hosts_round s (suc to) hosts (host_round most_handed s to g)

-- how many calls of a host are live
abbrev pub live_at : Option Host → ℕ
live_at None = 0
live_at (Some h) = len h.clients

-- a call is drawn; if its client has as many live calls as the settings allow, it isn't made, but counts
abbrev pub with_call : Settings → Traffic → Generated → Generated
with_call s t g =
    let counted = record g { made = g.made + 1; left = g.left - 1 } in
    if nat_le s.calls (live_at (host_at g.world t.client))
    then counted
    else with_line s (GivenEvent (event.Call t.client t.server t.service) (counting 0 t.size)) counted

-- so many calls, as long as some are still to be made
unfoldable pub calls_round : ℕ → Settings → Generated → Generated
calls_round zero s g = g
calls_round (suc n) s g =
    if g.left == 0 then g
    else (let t = next_traffic s.hosts g.fabric.random in
    calls_round n s (with_call s t.0 (record g { fabric = record g.fabric { random = t.1 } })))

-- how many calls are drawn in a round at most
abbrev pub calls_a_round : ℕ
calls_a_round = 20

-- each host may be handed a round's bytes
abbrev pub round_begun : Generated → Generated
round_begun g = record g { fabric = record g.fabric { destinations = map refilled g.fabric.destinations } }

-- a round: a tick, then what each host gets, in order, then up to 20 calls
unfoldable pub next_round : Settings → Generated → Generated
next_round s g = calls_round calls_a_round s (hosts_round s 0 s.hosts (round_begun (with_line s (GivenTicks 1) g)))

-- all calls are made, and none is live
abbrev pub is_over : Generated → Bool
is_over g = (g.left == 0) && list_all (λ (h : Host). len h.clients == 0) g.world.hosts

-- rounds go on until the run is over, or so many were done
unfoldable pub rounds : ℕ → Settings → Generated → Generated
rounds zero s g = g
rounds (suc n) s g =
    let after = next_round s g in
    if is_over after then after else rounds n s after
