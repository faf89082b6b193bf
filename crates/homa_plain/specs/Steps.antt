-- A step of a host: a call, a packet that comes, a turn. It is a fold of moves; each changes one row and speaks of one call.
-- Rules: which rows act in a turn, who gets GRANTs, what a call's id is. The rules of a step with files of their own are in
-- `CutoffsPackets`, `FiveAcks`, `OldPackets`, `Credit` and `SentNext`.
use Rattle.std.specs.Prelude.{ℕ, ◌+◌, ◌==◌, Bool, true, false, nat_lt, nat_le, if◌then◌else◌, Option, None, Some, List, [], ◌∷◌, length}
use Rattle.plain_sets.specs.Maps.{get, insert, len}
use Rattle.homa_plain.specs.declared.id.CallId.{CallId}
use Rattle.homa_plain.specs.declared.id.HostId.{HostId}
use Rattle.homa_plain.specs.declared.packet.Role.{Role}
use Rattle.homa_plain.specs.declared.packet.Role.TheVariants.{Client, Server}
use Rattle.homa_plain.specs.declared.packet.Body.{Body}
use Rattle.homa_plain.specs.declared.packet.Body.TheVariants as body
use Rattle.homa_plain.specs.declared.settings.Settings.{Settings}
use Rattle.homa_plain.specs.declared.fault.StartFault.{StartFault}
use Rattle.homa_plain.specs.declared.fault.StartFault.TheVariants.{Empty, TooLong, SelfCall, CallsFull, SeqSpent}
use Rattle.homa_plain.specs.Calls.{is_host}
use Rattle.homa_plain.specs.Grants.{Granted, grants}
use Rattle.homa_plain.specs.Timers.{due}
use Rattle.homa_plain.specs.Outgoing as outgoing
use Rattle.homa_plain.specs.Entries.{PlainCall, PlainJunk, PlainStale, PlainRun}
use Rattle.homa_plain.specs.Packets.{Packet, sender, acks}
use Rattle.homa_plain.specs.Rows.{ClientRow, ServerRow, set_row}
use Rattle.homa_plain.specs.Host.{Host, free_beside, Told, Says}
use Rattle.homa_plain.specs.Rules.{Moment, Answer, Did}
use Rattle.homa_plain.specs.AtClient.{client_gets}
use Rattle.homa_plain.specs.AtServer.{server_gets}
use Rattle.homa_plain.specs.Tombstones.{server_acked}
use Rattle.homa_plain.specs.Timers.{Place, OfClient, OfServer, Timer, timer_key, timers, client_acts, server_acts}
use Rattle.homa_plain.specs.Sending.{Arriving, arrivals, client_granted, server_granted}
use Rattle.homa_plain.specs.Limits.{longest_message}
use Rattle.homa_plain.specs.Work.{Work, now_of, begun, tells, posts, said}
use Rattle.homa_plain.specs.CutoffsPackets.{notes, tells_cutoffs, hears_cutoffs}
use Rattle.homa_plain.specs.FiveAcks.{finishes}
use Rattle.homa_plain.specs.OldPackets.{is_stale}
use Rattle.homa_plain.specs.Credit.{refilled}
use Rattle.homa_plain.specs.SentNext.{pump}

-- ---- what follows from a rule

-- a call's rule was carried out at its client: the row changes, and what follows is done
unfoldable pub asked : Settings → CallId → HostId → Did ClientRow → Work → Work
asked s id server did w =
    let put = record w { host = record w.host { order = did.order; clients = set_row w.host.clients id did.row } } in
    let reply = tells_cutoffs s Client id server did.version (notes s did.opened put) in
    finishes s id server did.finished (tells (said s w.host Client id server did.says) reply)

-- a call's rule was carried out at its server: the row changes, and what follows is done
unfoldable pub served : Settings → CallId → Did ServerRow → Work → Work
served s id did w =
    let put = record w { host = record w.host { order = did.order; servers = set_row w.host.servers id did.row } } in
    let reply = tells_cutoffs s Server id w.host.id did.version (notes s did.opened put) in
    tells (said s w.host Server id w.host.id did.says) reply

-- what a rule for a call's row is given
abbrev pub moment : Settings → CallId → Work → Moment
moment s id w = record { host = w.host.id; now = now_of w; order = w.host.order; free = free_beside s w.host id; rows = len w.host.servers }

-- ---- a packet arrives

-- the packet goes to the row of its call
abbrev pub comes_to_row : Settings → Packet → Answer → Role → Work → Work
comes_to_row s p answer Client w = served s p.id (server_gets s (moment s p.id w) p answer (get w.host.servers p.id)) w
comes_to_row s p answer Server w = asked s p.id p.server (client_gets s (moment s p.id w) p (get w.host.clients p.id)) w

-- the packet acknowledges calls, one by one
abbrev pub acked : Settings → List CallId → Work → Work
acked s [] w = w
acked s (id ∷ ids) w = acked s ids (served s id (server_acked s (moment s id w) id (get w.host.servers id)) w)

-- takes a packet: its cutoffs, then its call's row, then the calls that it acknowledges
unfoldable pub takes : Settings → Packet → Answer → Work → Work
takes s p answer w = acked s (acks p) (comes_to_row s p answer p.role (hears_cutoffs s (sender p) p.inc p.body w))

-- a datagram arrives; if it is no packet, or a packet that is too old, it only prints a line
abbrev pub comes : Settings → Option Packet → Answer → Work → Work
comes s None answer w = tells (Says (PlainJunk w.host.id) ∷ []) w
comes s (Some p) answer w =
    if is_stale s (now_of w) p then tells (Says (PlainStale w.host.id p.at (now_of w)) ∷ []) w else takes s p answer w

-- ---- timers

-- the row of a call at its client acts, if there is one
abbrev pub client_acted : Settings → CallId → Option ClientRow → Work → Work
client_acted s id None w = w
client_acted s id (Some r) w = asked s id r.server (client_acts s (moment s id w) id r) w

-- the row of a call at its server acts, if there is one
abbrev pub server_acted : Settings → CallId → Option ServerRow → Work → Work
server_acted s id None w = w
server_acted s id (Some row) w = served s id (server_acts s (moment s id w) id row) w

-- a row acts
abbrev pub acts_at : Settings → Place → Work → Work
acts_at s (OfClient id) w = client_acted s id (get w.host.clients id) w
acts_at s (OfServer id) w = server_acted s id (get w.host.servers id) w

-- the rows of these timers act, one after the other
abbrev pub all_act : Settings → List Timer → Work → Work
all_act s [] w = w
all_act s (t ∷ ts) w = all_act s ts (acts_at s t.place w)

-- each due row acts once: the first 32, by deadline and then by order
abbrev pub acts : Settings → Work → Work
acts s w = all_act s (due timer_key (now_of w) (timers s w.host)) w

-- ---- grants

-- a GRANT for the response of a call is sent to the server, and the row has the new granted end
abbrev pub client_is_granted : Settings → CallId → Body → ℕ → Option ClientRow → Work → Work
client_is_granted s id grant offset None w = w
client_is_granted s id grant offset (Some r) w =
    posts s Client id r.server grant (record w { host = record w.host { clients = insert w.host.clients id (client_granted (now_of w) offset r) } })

-- a GRANT for the request of a call is sent to the client, and the row has the new granted end
abbrev pub server_is_granted : Settings → CallId → Body → ℕ → Option ServerRow → Work → Work
server_is_granted s id grant offset None w = w
server_is_granted s id grant offset (Some row) w =
    posts s Server id w.host.id grant (record w { host = record w.host { servers = insert w.host.servers id (server_granted (now_of w) offset row) } })

-- a GRANT is sent to a message's sender
abbrev pub grants_at : Settings → Place → ℕ → ℕ → Work → Work
grants_at s (OfClient id) offset prio w = client_is_granted s id (body.Grant offset prio) offset (get w.host.clients id) w
grants_at s (OfServer id) offset prio w = server_is_granted s id (body.Grant offset prio) offset (get w.host.servers id) w

-- these GRANTs are sent, one after the other
abbrev pub all_granted : Settings → List (Granted Arriving) → Work → Work
all_granted s [] w = w
all_granted s (g ∷ gs) w = all_granted s gs (grants_at s g.to.place g.offset g.prio w)

-- the chosen messages get their GRANTs, in order of rank, if these raise their granted ends
-- Sources: SIGCOMM 2018, "Flow control" and "Overcommitment" (from memory).
abbrev pub gives_grants : Settings → Work → Work
gives_grants s w = all_granted s (grants (λ (a : Arriving). a.message) s.overcommit s.window (arrivals w.host)) w

-- each step ends with its grants and the pump
abbrev pub ended : Settings → Work → Work
ended s w = pump s (gives_grants s w)

-- ---- steps

-- the id of a host's next call
-- Source: SIGCOMM 2018, "RPCs, not connections" (from memory).
abbrev pub next_id : Host → CallId
next_id h = record { client = h.id; inc = h.inc; seq = h.seq }

-- why a call can't start, if it can't
-- A rule of this project.
unfoldable pub start_fault : Settings → Host → HostId → List ℕ → Option StartFault
start_fault s h server request =
    if length request == 0 then Some Empty
    else if nat_lt longest_message (length request) then Some TooLong
    else if is_host server h.id then Some SelfCall
    else if nat_le s.calls (len h.clients) then Some CallsFull
    else if nat_le 4294967295 h.seq then Some SeqSpent
    else None

-- the row of a new call
abbrev pub new_call : Settings → ℕ → ℕ → HostId → ℕ → List ℕ → ClientRow
new_call s now order server service request = record {
  server = server;
  service = service;
  request = request;
  order = order;
  out = outgoing.opened (length request) s.unsched;
  heard = now;
  base = now;
  count = 0;
  seen = 0;
  part = None;
}

-- a call starts: its row is opened under the next sequence number, and its `call` line is printed
abbrev pub starts : Settings → HostId → ℕ → List ℕ → Work → Work
starts s server service request w =
    let h = w.host in
    let row = new_call s (now_of w) h.order server service request in
    tells (Says (PlainCall (next_id h) server service request) ∷ [])
    (record w { host = record h { seq = h.seq + 1; order = h.order + 1; clients = insert h.clients (next_id h) row } })

-- a host calls a service of another one; there is no fault
unfoldable pub call_step : Settings → Host → ℕ → HostId → ℕ → List ℕ → Work
call_step s h now server service request = ended s (starts s server service request (begun h now))

-- a datagram arrives at a host: this packet, or none; the answer is what its service returns, if it runs
unfoldable pub arrival_step : Settings → Host → ℕ → Option Packet → Answer → Work
arrival_step s h now packet answer = ended s (comes s packet answer (begun h now))

-- a turn of a host
unfoldable pub turn_step : Settings → Host → ℕ → Work
turn_step s h now = ended s (acts s (begun (refilled s (record h { last = now })) now))

-- whether a service was asked
abbrev pub has_run : List Told → Bool
has_run [] = false
has_run (Says (PlainRun host id service request response hold) ∷ told) = true
has_run (t ∷ told) = has_run told

-- what a service is asked: for which call, by which number, and with which request
pub record Asked : Type 0 where
  pub id : CallId
  pub service : ℕ
  pub request : List ℕ

-- what the service of a step is asked, if it is: what its first `run` line says
abbrev pub asked_in : List Told → Option Asked
asked_in [] = None
asked_in (Says (PlainRun host id service request response hold) ∷ told) = Some (record { id = id; service = service; request = request })
asked_in (t ∷ told) = asked_in told

-- the step of an arrival, if the service answers or is out of memory; in the second case nothing of the step happens
abbrev pub arrival_or_none : Settings → Host → ℕ → Option Packet → Option Answer → Option Work
arrival_or_none s h now packet (Some answer) = Some (arrival_step s h now packet answer)
arrival_or_none s h now packet None =
    let w = arrival_step s h now packet (record { bytes = []; hold = 0 }) in
    if has_run w.told then None else Some w
