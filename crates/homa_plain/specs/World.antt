-- The world: hosts with their own clocks, the packets that were sent, and what each event does.
use Rattle.std.specs.Prelude.{ℕ, zero, suc, ◌+◌, ◌-◌, ◌==◌, Bool, is_some, nat_lt, if◌then◌else◌, Option, None, Some, List, [], ◌∷◌, ◌++◌}
use Rattle.std.specs.Prelude.{length, map, drop, replicate, slice_get, slice_set, slice_index_or}
use Rattle.homa_plain.specs.declared.id.HostId.{HostId}
use Rattle.homa_plain.specs.declared.packet.Packet.{Packet as WirePacket}
use Rattle.homa_plain.specs.declared.settings.Settings.{Settings}
use Rattle.homa_plain.specs.declared.event.Event.{Event}
use Rattle.homa_plain.specs.declared.event.Event.TheVariants as event
use Rattle.homa_plain.specs.declared.fault.StartFault.{StartFault}
use Rattle.homa_plain.specs.declared.fault.WorldFault.{WorldFault}
use Rattle.homa_plain.specs.declared.fault.WorldFault.TheVariants.{NoSuchHost, NoSuchPacket, Late, Start, NoSpare, ClockEnd, Decodes, OutOfBand, Back}
use Rattle.homa_plain.specs.Settings.{band}
use Rattle.homa_plain.specs.OldPackets.{is_past_life}
use Rattle.homa_plain.specs.Wire.{packet_in}
use Rattle.homa_plain.specs.Entries.{PlainEntry, PlainDeliver, PlainClock, PlainRestart, PlainInject, PlainShift}
use Rattle.homa_plain.specs.Packets.{Packet, receiver}
use Rattle.homa_plain.specs.Host.{Host, new_host, Told, packets_in, entries_from}
use Rattle.homa_plain.specs.Rules.{Answer}
use Rattle.homa_plain.specs.Work.{Work}
use Rattle.homa_plain.specs.Steps.{start_fault, call_step, arrival_step, turn_step, has_run}

-- a packet that was sent, with the world's tick at its sending
pub record SentPacket : Type 0 where
  pub tick : ℕ
  pub packet : Packet

-- all hosts, the clock, the packets that were sent, and what is left of boxes and answers
pub record World : Type 0 where
  pub clock : ℕ
  pub hosts : List Host
  pub leads : List ℕ  -- how far each host's own clock is ahead of the world's
  pub packets : List SentPacket  -- all that were sent, by their numbers
  pub spares : ℕ  -- how many boxes are left for hosts that restart
  pub answers : List Answer  -- what the services answer, one after the other

-- the hosts from number n on, in their first incarnation
abbrev pub new_hosts : Settings → ℕ → List ℕ → List Host
new_hosts s n [] = []
new_hosts s n (inc ∷ incs) = new_host s (record { 0 = n }) inc 0 ∷ new_hosts s (suc n) incs

-- a world in which nothing has happened, with these first incarnations, this first tick, so many boxes and these answers
unfoldable pub new_world : Settings → List ℕ → ℕ → ℕ → List Answer → World
new_world s incs clock boxes answers =
    record { clock = clock; hosts = new_hosts s 0 incs; leads = replicate (length incs) s.skew; packets = []; spares = boxes - length incs; answers = answers }

-- a host, where there is one
abbrev pub host_at : World → HostId → Option Host
host_at w host = slice_get w.hosts host.0

-- a host's own clock
abbrev pub own_clock : World → HostId → ℕ
own_clock w host = w.clock + slice_index_or w.leads host.0 0

-- where no answer is left, a service answers with one byte
abbrev pub next_answer : List Answer → Answer
next_answer [] = record { bytes = 0 ∷ []; hold = 0 }
next_answer (answer ∷ answers) = answer

-- the answers that are left after a step: it used one if it asked a service
abbrev pub answers_left : List Told → List Answer → List Answer
answers_left told answers = if has_run told then drop 1 answers else answers

-- the world in which this host is so
abbrev pub with_host : World → HostId → Host → World
with_host w id h = record w { hosts = slice_set w.hosts id.0 h }

-- the packets of a step get the next numbers, and the world's tick
abbrev pub stamped : ℕ → List Packet → List SentPacket
stamped tick packets = map (λ (p : Packet). record { tick = tick; packet = p }) packets

-- the world after an event, and what the event prints
pub record After : Type 0 where
  pub world : World
  pub told : List PlainEntry

-- what becomes of an event
pub data Outcome : Type 0 where
  Refused : (fault : WorldFault) → Outcome
  Done : (after : After) → Outcome

-- a host did a step: first the event's own entry is printed, if it has one
abbrev pub stepped : World → HostId → List PlainEntry → Work → Outcome
stepped w id first step = Done (record {
  world = record w {
    hosts = slice_set w.hosts id.0 step.host;
    packets = w.packets ++ stamped w.clock (packets_in step.told);
    answers = answers_left step.told w.answers;
  };
  told = first ++ entries_from (length w.packets) step.told;
})

-- ---- events

-- a call of a client that is there, unless there is a reason why it can't start
abbrev pub started : Settings → World → HostId → HostId → ℕ → List ℕ → Host → Option StartFault → Outcome
started s w client server number request h (Some fault) = Refused (Start fault)
started s w client server number request h None = stepped w client [] (call_step s h (own_clock w client) server number request)

-- a call of this client, which must be there
abbrev pub calls_from : Settings → World → HostId → HostId → ℕ → List ℕ → Option Host → Outcome
calls_from s w client server number request None = Refused NoSuchHost
calls_from s w client server number request (Some h) = started s w client server number request h (start_fault s h server request)

-- a call: both hosts must be there
abbrev pub call_outcome : Settings → World → HostId → HostId → ℕ → List ℕ → Outcome
call_outcome s w client server number request =
    if is_some (host_at w server) then calls_from s w client server number request (host_at w client) else Refused NoSuchHost

-- a datagram arrives at a host, which must be there; it is this packet, or none
abbrev pub arrives_at : Settings → World → HostId → List PlainEntry → Option Packet → Option Host → Outcome
arrives_at s w id first packet None = Refused NoSuchHost
arrives_at s w id first packet (Some h) = stepped w id first (arrival_step s h (own_clock w id) packet (next_answer w.answers))

-- with version 1 a packet may not be delivered after its life; with version 2 its receiver refuses it
-- A rule of this project.
abbrev pub is_late : Settings → World → ℕ → Bool
is_late s w tick = is_past_life s tick w.clock

-- packet n is delivered: it must have been sent, and may not be late
abbrev pub delivered : Settings → World → ℕ → Option SentPacket → Outcome
delivered s w n None = Refused NoSuchPacket
delivered s w n (Some sent) =
    if is_late s w sent.tick
    then Refused (Late sent.tick w.clock)
    else (let id = receiver sent.packet in arrives_at s w id (PlainDeliver n ∷ []) (Some sent.packet) (host_at w id))

-- the clock's last tick
abbrev pub last_tick : ℕ
last_tick = 1000000000000

-- the clock goes on by a tick, unless it is at its last
abbrev pub clock_outcome : World → Outcome
clock_outcome w =
    if w.clock == last_tick then Refused ClockEnd else Done (record { world = record w { clock = w.clock + 1 }; told = PlainClock (w.clock + 1) ∷ [] })

-- a turn of a host, which must be there
abbrev pub turns : Settings → World → HostId → Option Host → Outcome
turns s w id None = Refused NoSuchHost
turns s w id (Some h) = stepped w id [] (turn_step s h (own_clock w id))

-- a host restarts: it is a new host of the next incarnation, with a spare service;
-- its lead, and the clock of its last step, stay
-- A rule of this project.
abbrev pub restarts : Settings → World → HostId → Option Host → ℕ → Outcome
restarts s w id None spares = Refused NoSuchHost
restarts s w id (Some h) zero = Refused NoSpare
restarts s w id (Some h) (suc spares) = Done (record {
  world = record w { hosts = slice_set w.hosts id.0 (new_host s id (h.inc + 1) h.last); spares = spares };
  told = PlainRestart id (h.inc + 1) ∷ [];
})

-- a datagram that no host sent arrives from host 0, and at host 0 from host 1
abbrev pub stranger : HostId → HostId
stranger id = if id.0 == 0 then record { 0 = 1 } else record { 0 = 0 }

-- it must be no packet
abbrev pub injected : Settings → World → HostId → List ℕ → Option Host → Option (WirePacket × List ℕ) → Outcome
injected s w id bytes None read = Refused NoSuchHost
injected s w id bytes (Some h) (Some read) = Refused Decodes
injected s w id bytes (Some h) None = arrives_at s w id (PlainInject id bytes ∷ []) None (Some h)

-- a host's lead becomes n ticks: at most the band, and so that its own clock isn't before that of its last step
-- A rule of this project.
abbrev pub shifted : Settings → World → HostId → ℕ → Option Host → Outcome
shifted s w id n None = Refused NoSuchHost
shifted s w id n (Some h) =
    if nat_lt (band s) n then Refused (OutOfBand n (band s))
    else if nat_lt (w.clock + n) h.last then Refused (Back h.last (w.clock + n))
    else Done (record { world = record w { leads = slice_set w.leads id.0 n }; told = PlainShift id n ∷ [] })

-- what an event with these bytes does
unfoldable pub outcome : Settings → World → Event → List ℕ → Outcome
outcome s w (event.Call client server number) bytes = call_outcome s w client server number bytes
outcome s w (event.Deliver packet) bytes = delivered s w packet (slice_get w.packets packet)
outcome s w event.Clock bytes = clock_outcome w
outcome s w (event.Turn host) bytes = turns s w host (host_at w host)
outcome s w (event.Restart host) bytes = restarts s w host (host_at w host) w.spares
outcome s w (event.Inject host) bytes = injected s w host bytes (host_at w host) (packet_in s.wire bytes)
outcome s w (event.Shift host n) bytes = shifted s w host n (host_at w host)
