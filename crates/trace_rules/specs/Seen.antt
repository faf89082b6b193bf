-- What the lines of a trace say, with one more line.
use Rattle.std.specs.Prelude.{ℕ, ◌+◌, ◌==◌, ◌&&◌, ◌||◌, Bool, true, false, not, nat_lt, if◌then◌else◌, Option, None, Some, unwrap_or, List, [], ◌∷◌}
use Rattle.std.specs.Prelude.{◌++◌, length, slice_get}
use Rattle.std.specs.Option.{option_map_or}
use Rattle.std.specs.Ordering.{nat_cmp}
use Rattle.plain_sets.specs.Maps.{Map, get, contains_key, insert, remove, retain}
use Rattle.homa_plain.specs.declared.id.CallId.{CallId}
use Rattle.homa_plain.specs.declared.id.HostId.{HostId}
use Rattle.homa_plain.specs.declared.packet.Body.{Body}
use Rattle.homa_plain.specs.declared.packet.Body.TheVariants as body
use Rattle.homa_plain.specs.declared.packet.Packet.{Packet}
use Rattle.homa_plain.specs.declared.entry.Why.{Why}
use Rattle.homa_plain.specs.declared.entry.Why.TheVariants.{Timeout, Forgotten}
use Rattle.homa_plain.specs.Entries.{PlainEntry, PlainSettings, PlainCall, PlainDeliver, PlainClock, PlainRestart, PlainInject, PlainShift}
use Rattle.homa_plain.specs.Entries.{PlainStale, PlainSend, PlainRun, PlainDone, PlainFail, PlainDrop, PlainGaps, PlainFullRows, PlainFullPages}
use Rattle.homa_plain.specs.Entries.{PlainRecv}
use Rattle.homa_plain.specs.Wire.{is_client, is_server, packet_in}
use Rattle.homa_plain.specs.Calls.{is_host, is_call}
use Rattle.trace_rules.specs.Lines.{is_last}
use Rattle.trace_rules.specs.Parts.{opened, grown, made_whole, raised, changed}
use Rattle.trace_rules.specs.View.{Called, Sent, no_ends, Progress, View, own_tick, restarts_of, life, is_server_of, has_run, counts, sent_last, resends_of}

-- ---- blocks

-- what holds whether the block's delivery is answered by `full`, `gaps`, `stale` or by none of them
abbrev pub in_each : (Progress → Progress) → View → View
in_each change v = record v { now = change v.now; if_refused = change v.if_refused; if_stale = change v.if_stale }

-- a block begins
abbrev pub begun : View → View
begun v = record (in_each (λ _. record v.now { came = None; due = no_ends }) v) { here = no_ends }

-- ---- deliveries

-- the packet that a datagram is: its sender and its receiver say whose call it is of
abbrev pub received : HostId → HostId → Option (Packet × List ℕ) → Option Sent
received host from None = None
received host from (Some read) =
    let p = read.0 in
    let id : CallId = record { client = if is_client p.role then from else host; inc = p.inc; seq = p.seq } in
    Some (record { from = from; to = host; inc = p.sender; role = p.role; id = id; body = p.body; payload = read.1 })

-- the packet that a line delivers, if any: lines name packets by their numbers, or by their bytes
abbrev pub delivery : View → PlainEntry → Option Sent
delivery v (PlainDeliver packet) = slice_get v.packets packet
delivery v (PlainRecv host from bytes) = received host from (packet_in v.settings.wire bytes)
delivery v line = None

-- the packet is UNKNOWN
abbrev pub is_unknown : Body → Bool
is_unknown (body.Unknown reason) = true
is_unknown other = false

-- whether the packet is UNKNOWN of a call that the server ran and forgot
abbrev pub is_forgotten : Body → Bool
is_forgotten (body.Unknown reason) = reason == 1
is_forgotten other = false

-- a packet that counts: one of a later incarnation ends the response part, and every one but UNKNOWN renews the call
abbrev pub heard : Sent → Progress → Progress
heard p m =
    record m {
      due = record m.due { forgotten = if is_forgotten p.body then p.id ∷ [] else [] };
      live = insert m.live p.id p.inc;
      responses = if nat_lt (unwrap_or (get m.live p.id) 0) p.inc then remove m.responses p.id else m.responses;
      resends = if is_unknown p.body then m.resends else insert m.resends p.id [];
    }

-- a packet that may count
abbrev pub counted : View → Sent → Progress → Progress
counted v p m = if counts v m p then heard p m else m

-- bytes of a request, admitted at the call's server if the call hasn't run there in this life
abbrev pub to_server : View → Sent → ℕ → Progress → Option Called → Progress
to_server v p offset m None = m
to_server v p offset m (Some c) =
    let before = get m.requests p.id in
    let after = grown v.place offset (offset + length p.payload) (unwrap_or before (opened c.server p.id.client (length c.request) v.settings.unsched)) in
    if is_host p.to c.server && not (has_run v c.server p.id)
    then record m { requests = insert m.requests p.id after; due = record m.due { runs = made_whole p.id before after } }
    else m

-- bytes of a response, admitted if the packet counts; the first packet says how long the message is
abbrev pub to_client : View → Sent → ℕ → ℕ → Progress → Progress
to_client v p size offset m =
    let before = get m.responses p.id in
    let after = grown v.place offset (offset + length p.payload) (unwrap_or before (opened p.to p.from size v.settings.unsched)) in
    if counts v m p
    then record m { responses = insert m.responses p.id after; due = record m.due { dones = made_whole p.id before after } }
    else m

-- the bytes of a packet are admitted
abbrev pub admitted : View → Sent → Progress → Body → Progress
admitted v p m (body.Data size offset version service ack) = if is_client p.role then to_server v p offset m (get v.calls p.id) else to_client v p size offset m
admitted v p m other = m

-- a block begins with the delivery of a packet
abbrev pub delivered : View → Option Sent → View
delivered v None = v
delivered v (Some p) =
    let unadmitted = counted v p (record v.now { came = Some p }) in
    record v { now = admitted v p unadmitted p.body; if_refused = unadmitted }

-- whether the block begins with the delivery of a packet of this call to this host
abbrev pub is_delivery_to : View → HostId → CallId → Bool
is_delivery_to v host id = option_map_or (λ p. is_call p.id id && is_host p.to host) v.now.came false

-- `full` or `gaps`: the bytes of the block's delivery aren't admitted
abbrev pub refused : View → HostId → CallId → View
refused v host id = if is_delivery_to v host id then record v { now = v.if_refused } else v

-- `stale`: nothing was delivered
abbrev pub stale : View → View
stale v = in_each (λ _. v.if_stale) v

-- ---- packets that are sent

-- a call is renewed: its RESENDs are counted anew
abbrev pub renewed : CallId → Progress → Progress
renewed id m = record m { resends = insert m.resends id [] }

-- a GRANT raises a granted end, a RESEND of the client is counted, and DATA of a request renews its call until the last byte was sent
abbrev pub said : View → Sent → Body → Progress → Progress
said v p (body.Grant offset prio) m =
    if is_server p.role
    then record m { requests = changed (raised p.from p.to offset) m.requests p.id }
    else record m { responses = changed (raised p.from p.to offset) m.responses p.id }
said v p (body.Resend from to prio) m =
    if is_client p.role then record m { resends = insert m.resends p.id (own_tick v p.id.client ∷ resends_of m p.id) } else m
said v p (body.Data size offset version service ack) m = if is_client p.role && not (sent_last v p.id) then renewed p.id m else m
said v p other m = m

-- the incarnations of first lives, with the sender's if this is its first packet and it hasn't restarted
abbrev pub with_first : View → Sent → Map nat_cmp ℕ
with_first v p = if life v p.from == 0 && not (contains_key v.firsts p.from.0) then insert v.firsts p.from.0 p.inc else v.firsts

-- a packet is sent
abbrev pub sent : View → Sent → View
sent v p = record (in_each (said v p p.body) v) { packets = v.packets ++ p ∷ []; firsts = with_first v p }

-- ---- calls

-- a call starts
abbrev pub started : CallId → Progress → Progress
started id m = renewed id (record m { live = insert m.live id 0 })

-- a call is done or failed
abbrev pub finished : CallId → Progress → Progress
finished id m = record m { live = remove m.live id; responses = remove m.responses id }

-- a call failed
abbrev pub failed : View → CallId → Why → View
failed v id Timeout = in_each (finished id) v
failed v id Forgotten = record (in_each (finished id) v) { here = record v.here { forgotten = id ∷ v.here.forgotten } }

-- a server gives up a request
abbrev pub dropped : View → HostId → CallId → Progress → Progress
dropped v host id m = if is_server_of v id host then record m { requests = remove m.requests id } else m

-- a host restarts: its live calls end, and what has arrived at it is gone
abbrev pub restarted : View → HostId → Progress → Progress
restarted v host m =
    record m {
      live = retain m.live (λ id. not (is_host id.client host));
      requests = retain m.requests (λ id. not (is_server_of v id host));
      responses = retain m.responses (λ id. not (is_host id.client host));
    }

-- ---- lines

-- what the lines say, with one more line; its place aside
abbrev pub with_line : View → PlainEntry → View
with_line v (PlainSettings settings) = record v { settings = settings }
with_line v (PlainCall id server service bytes) =
    record (in_each (started id) (begun v)) { calls = insert v.calls id (record { server = server; service = service; request = bytes }) }
with_line v (PlainDeliver packet) = delivered (begun v) (delivery v (PlainDeliver packet))
with_line v (PlainRecv host from bytes) = delivered (begun v) (delivery v (PlainRecv host from bytes))
with_line v (PlainClock tick) = record (begun v) { tick = tick }
with_line v (PlainRestart host inc) = record (in_each (restarted v host) (begun v)) { restarts = insert v.restarts host.0 (restarts_of v host ++ inc ∷ []) }
with_line v (PlainInject host bytes) = begun v
with_line v (PlainShift host n) = record (begun v) { leads = insert v.leads host.0 n }
with_line v (PlainStale host at now) = stale v
with_line v (PlainSend number from to inc role id level body payload) =
    sent v (record { from = from; to = to; inc = inc; role = role; id = id; body = body; payload = payload })
with_line v (PlainRun host id service request response hold) =
    record v { runs = record { host = host; life = life v host; id = id; response = response } ∷ v.runs; here = record v.here { runs = id ∷ v.here.runs } }
with_line v (PlainDone id bytes) = record (in_each (finished id) v) { here = record v.here { dones = id ∷ v.here.dones } }
with_line v (PlainFail id why) = failed v id why
with_line v (PlainDrop host id) = in_each (dropped v host id) v
with_line v (PlainGaps host id) = refused v host id
with_line v (PlainFullRows host id rows limit) = refused v host id
with_line v (PlainFullPages host id need free) = refused v host id
with_line v line = v

-- what the lines say, with one more line
unfoldable pub seen : View → PlainEntry → View
seen v line = record (with_line v line) { place = v.place + 1; ended = v.ended || is_last line }

-- what these lines say, after those that said v
abbrev pub seen_all : View → List PlainEntry → View
seen_all v [] = v
seen_all v (line ∷ lines) = seen_all (seen v line) lines
