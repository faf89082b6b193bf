-- The run of a node, from its script, what the services answer, the ticks that the clock gave, and what each receive gave.
-- A node is a plain world of which only the local hosts act: its clock is read outside, and its packets go to a net.
use Rattle.std.specs.Prelude.{◌≤◌, ℕ, zero, suc, ◌==◌, ◌||◌, nat_lt, nat_le, if◌then◌else◌, Option, None, Some, List, [], ◌∷◌, ◌++◌, map, length, IfSome}
use Rattle.std.specs.List.{AllByRecursion}
use Rattle.homa_plain.specs.declared.id.HostId.{HostId}
use Rattle.homa_plain.specs.declared.packet.Packet.{Packet as WirePacket}
use Rattle.homa_plain.specs.declared.settings.Settings.{Settings}
use Rattle.homa_plain.specs.declared.event.Event.TheVariants as event
use Rattle.homa_plain.specs.declared.fault.LineFault.{LineFault}
use Rattle.homa_plain.specs.declared.fault.LineFault.TheVariants.{World as ByWorld}
use Rattle.homa_plain.specs.Bytes.{IsBytes}
use Rattle.homa_plain.specs.Wire.{packet_in}
use Rattle.homa_plain.specs.Calls.{is_host}
use Rattle.homa_plain.specs.Entries.{PlainEntry, PlainSettings, PlainClock, PlainRecv}
use Rattle.homa_plain.specs.Packets.{Packet, packet_between, sender, receiver, datagram}
use Rattle.homa_plain.specs.Rules.{Answer}
use Rattle.homa_plain.specs.World.{World, SentPacket, new_world, last_tick, host_at, After, Outcome, Refused, Done, arrives_at, outcome}
use Rattle.homa_plain.specs.Script.{most_bytes}
use Rattle.node_runs.specs.Script.{Place, Local, Remote, Setup, TimedCall, Refusal, Calls, Opening, Opened, Unopened, opening}

-- ---- what a run is given, and what it gives

-- a report of a run: an entry, or that a turn of a host begins
pub data Report : Type 0 where
  Tells : (entry : PlainEntry) → Report
  Turning : (host : HostId) → Report

-- what a clock may give: ticks that never fall, from one on, up to the clock's last one
abbrev pub AreTicks : ℕ → List ℕ → Type 0
AreTicks least [] = Unit {0}
AreTicks least (tick ∷ ticks) = (least ≤ tick) × (tick ≤ last_tick) × AreTicks tick ticks

-- a datagram that is handed to the net
pub record Datagram : Type 0 where
  pub from : HostId
  pub to : HostId
  pub bytes : List ℕ

-- a datagram that the net gives to a host
pub record Arrival : Type 0 where
  pub from : HostId
  pub bytes : List ℕ

-- what a receive for a host gave: a datagram, or nothing
pub record Receive : Type 0 where
  pub host : HostId
  pub got : Option Arrival

-- a net gives bytes, and at most 1,500 of them in one receive
pub record IsReceived (a : Arrival) : Type 0 where
  pub bytes : IsBytes a.bytes
  pub few : length a.bytes ≤ 1500

-- each of these receives that gave a datagram gave such bytes
abbrev pub AreReceived : List Receive → Type 0
AreReceived receives = AllByRecursion (λ (r : Receive). IfSome r.got IsReceived) receives

-- how a run ends: at its last tick after so many loop turns, at a line that is refused, or after the most loop turns that it may take
pub data End : Type 0 where
  Ended : (turns : ℕ) → End
  RefusedAt : (line : ℕ) (fault : LineFault) → End
  StalledAt : (turns now : ℕ) → End

-- what a run gives, and the receives that it leaves; it has no end where a tick isn't given, nor a receive for the host whose turn it is
pub record Run : Type 0 where
  pub reports : List Report
  pub sent : List Datagram
  pub left : List Receive
  pub end : Option End

-- ---- a node

-- a node in its run: its hosts with the packets that they sent, its reports so far, the calls that are still to be
-- made, and what the net's receives are still to give
pub record Node : Type 0 where
  pub world : World
  pub reports : List Report
  pub calls : Calls
  pub receives : List Receive

-- how far a run has come
pub data Course : Type 0 where
  GoesOn : (node : Node) → Course
  Stops : (node : Node) (end : Option End) → Course

-- what comes next, where the run goes on
infixl 10 ◌>>=◌
abbrev pub ◌>>=◌ : Course → (Node → Course) → Course
(GoesOn node) >>= f = f node
(Stops node end) >>= f = Stops node end

-- these reports, and then what an event of the world prints
abbrev pub goes : List Report → After → Node → Node
goes first after node = record node { world = after.world; reports = node.reports ++ (first ++ map Tells after.told) }

-- an event that the world doesn't refuse
abbrev pub follows : List Report → Outcome → Node → Node
follows first (Refused fault) node = node
follows first (Done after) node = goes first after node

-- ---- calls

-- the calls whose tick has come are started, in order; then the line that is refused is read, if it stands next
abbrev pub starts : Settings → Option Refusal → List TimedCall → Node → Course
starts s None [] node = GoesOn (record node { calls = record { calls = []; refused = None } })
starts s (Some r) [] node = Stops node (Some (RefusedAt r.line r.fault))
starts s refused (c ∷ cs) node =
    if nat_lt node.world.clock c.tick then GoesOn (record node { calls = record { calls = c ∷ cs; refused = refused } })
    else elim (outcome s node.world (event.Call c.client c.server c.service) c.bytes) [
      | Refused fault ↦ Stops node (Some (RefusedAt c.line (ByWorld fault)))
      | Done after ↦ starts s refused cs (goes [] after node)
    ]

-- ---- datagrams that arrive

-- what a datagram's bytes spell, as a packet between two hosts
abbrev pub packet_from : HostId → HostId → Option (WirePacket × List ℕ) → Option Packet
packet_from from to None = None
packet_from from to (Some (w, payload)) = Some (packet_between from to w payload)

-- a datagram arrives at a host: the packet that its bytes spell, or no packet
abbrev pub arrival_outcome : Settings → World → HostId → Arrival → Outcome
arrival_outcome s w id a =
    arrives_at s w id (PlainRecv id a.from a.bytes ∷ []) (packet_from a.from id (packet_in s.wire a.bytes)) (host_at w id)

-- how many datagrams a host receives in a loop turn at most
abbrev pub most_received : ℕ
most_received = 64

-- a host receives up to so many datagrams, until there is none; each is dealt with before the next is received;
-- a receive is for this host
abbrev pub hears : Settings → HostId → ℕ → List Receive → Node → Course
hears s id zero left node = GoesOn (record node { receives = left })
hears s id (suc n) [] node = Stops node None
hears s id (suc n) (r ∷ left) node =
    if is_host r.host id then elim (r.got) [
      | None ↦ GoesOn (record node { receives = left })
      | Some a ↦ hears s id n left (follows [] (arrival_outcome s node.world id a) node)
    ]
    else Stops node None

-- a turn of a host
abbrev pub has_turn : Settings → HostId → Node → Node
has_turn s id node = follows (Turning id ∷ []) (outcome s node.world (event.Turn id) []) node

-- each of these hosts receives, and then has its turn
abbrev pub hosts_act : Settings → List HostId → Node → Course
hosts_act s [] node = GoesOn node
hosts_act s (id ∷ ids) node = hears s id most_received node.receives node >>= λ m. hosts_act s ids (has_turn s id m)

-- ---- loop turns

-- the local hosts among these, of which the first has number n
abbrev pub locals_from : ℕ → List Place → List HostId
locals_from n [] = []
locals_from n (Local inc port ∷ places) = record { 0 = n } ∷ locals_from (suc n) places
locals_from n (Remote port ∷ places) = locals_from (suc n) places

-- the local hosts of a node
abbrev pub locals : Setup → List HostId
locals setup = locals_from 0 setup.places

-- the clock is at this tick; that is reported in the first loop turn, and in each in which it rose
abbrev pub clock_stands : ℕ → ℕ → Node → Node
clock_stands n now node =
    let told = if n == 1 || nat_lt node.world.clock now then Tells (PlainClock now) ∷ [] else [] in
    record node { world = record node.world { clock = now }; reports = node.reports ++ told }

-- after n loop turns the run ends where the clock has come to the end, or where it may take no more of them
abbrev pub ends : Setup → ℕ → ℕ → Node → Course
ends setup n now node =
    if nat_le setup.end now then Stops node (Some (Ended n))
    else if nat_le setup.turns n then Stops node (Some (StalledAt n now))
    else GoesOn node

-- loop turn n, at this tick
unfoldable pub loop_turn : Setup → ℕ → ℕ → Node → Course
loop_turn setup n now node = do
  started ← (let at = clock_stands n now node in starts setup.settings at.calls.refused at.calls.calls at)
  acted ← hosts_act setup.settings (locals setup) started
  ends setup n now acted

-- the loop turns from number n on, as long as the clock gives ticks
unfoldable pub loop_turns : Setup → ℕ → List ℕ → Node → Course
loop_turns setup n [] node = Stops node None
loop_turns setup n (now ∷ ticks) node = loop_turn setup n now node >>= loop_turns setup (suc n) ticks

-- ---- runs

-- the first incarnation of a host; one that is in another process does nothing here
abbrev pub first_inc : Place → ℕ
first_inc (Local inc port) = inc
first_inc (Remote port) = 1

-- a node that has done nothing
abbrev pub new_node : Setup → Calls → List Answer → List Receive → Node
new_node setup calls answers receives = record {
  world = new_world setup.settings (map first_inc setup.places) 0 0 answers;
  reports = Tells (PlainSettings setup.settings) ∷ [];
  calls = calls;
  receives = receives;
}

-- the packets that were sent, as datagrams
abbrev pub datagrams : Settings → World → List Datagram
datagrams s w = map (λ (p : SentPacket). record { from = sender p.packet; to = receiver p.packet; bytes = datagram s p.packet }) w.packets

-- what a run gives when its course is over
abbrev pub run_of : Settings → Course → Run
run_of s (GoesOn node) = record { reports = node.reports; sent = datagrams s node.world; left = node.receives; end = None }
run_of s (Stops node end) = record { reports = node.reports; sent = datagrams s node.world; left = node.receives; end = end }

-- the run of an opened script; one that isn't opened reports nothing but its end
abbrev pub run_opened : Opening → List Answer → List ℕ → List Receive → Run
run_opened (Unopened refusal) answers ticks receives = record { reports = []; sent = []; left = receives; end = Some (RefusedAt refusal.line refusal.fault) }
run_opened (Opened setup calls) answers ticks receives =
    run_of setup.settings (loop_turns setup 1 ticks (new_node setup calls answers receives))

-- the run of a script, where the services answer so, the clock gives these ticks, and the receives give these datagrams or nothing
unfoldable pub node_run : List ℕ → List Answer → List ℕ → List Receive → Run
node_run bytes answers ticks receives = run_opened (opening most_bytes bytes) answers ticks receives
