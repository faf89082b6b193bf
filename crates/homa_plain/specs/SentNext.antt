-- What is sent next: which message goes first, and how long the pump goes on. Its piece is `next_range` of `Outgoing`.
use Rattle.std.specs.Prelude.{ℕ, ◌+◌, ◌-◌, ◌&&◌, ◌||◌, Bool, nat_lt, nat_le, if◌then◌else◌, Option, None, Some, List, [], ◌∷◌, ◌++◌, drop, zero}
use Rattle.std.specs.Prelude.{suc, length}
use Rattle.std.specs.List.{flat_map}
use Rattle.plain_sets.specs.Ordered.{ordered, first_of}
use Rattle.plain_sets.specs.Maps.{entries, get, insert}
use Rattle.plain_sets.specs.Ranges.{Range}
use Rattle.homa_plain.specs.declared.id.CallId.{CallId}
use Rattle.homa_plain.specs.declared.settings.Settings.{Settings}
use Rattle.homa_plain.specs.Settings.{patience}
use Rattle.homa_plain.specs.Outgoing.{left, has_waiting, next_range}
use Rattle.homa_plain.specs.Rows.{ClientRow, ServerRow, State, Replying}
use Rattle.homa_plain.specs.Host.{Host, peer_cutoffs, finished_at, with_finished, Sends, packets_in}
use Rattle.homa_plain.specs.Timers.{Place, OfClient, OfServer}
use Rattle.homa_plain.specs.declared.packet.Role.TheVariants.{Client, Server}
use Rattle.homa_plain.specs.Sending.{Content, request_content, response_content, client_sends, state_sends}
use Rattle.homa_plain.specs.Work.{Work, now_of, tells, packet_from}
use Rattle.homa_plain.specs.FiveAcks.{oldest}
use Rattle.homa_plain.specs.Credit.{spent, if_affordable}

-- a request may be sent if bytes of it wait and it is new: its last byte was never sent, or the server was heard of
-- within its patience.
-- A rule of this project: a client stops sending to a server from which nothing comes.
abbrev pub may_send_request : Settings → ℕ → ClientRow → Bool
may_send_request s now r = has_waiting r.out && (nat_lt r.out.top r.out.length || nat_le now (r.heard + patience s))

-- an outgoing message that may be sent
pub record Leaving : Type 0 where
  pub place : Place
  pub left : ℕ  -- how many bytes lie above all that were sent
  pub order : ℕ

-- the message with the fewest bytes left is sent first, and the oldest of several with as many
-- Source: SIGCOMM 2018, "Basic sender behavior" (from memory).
-- That bytes which are sent again don't count is a rule of this project.
abbrev pub leaving_key : Leaving → ℕ × ℕ
leaving_key l = (l.left, l.order)

-- the request of a call, if it may be sent
abbrev pub leaving_at_client : Settings → ℕ → CallId → ClientRow → List Leaving
leaving_at_client s now id r = if may_send_request s now r then record { place = OfClient id; left = left r.out; order = r.order } ∷ [] else []

-- the response of a call, if bytes of it wait
abbrev pub leaving_at_server : CallId → State → List Leaving
leaving_at_server id (Replying response out order base count) =
    if has_waiting out then record { place = OfServer id; left = left out; order = order } ∷ [] else []
leaving_at_server id state = []

-- the outgoing messages of a host that may be sent
abbrev pub departures : Settings → ℕ → Host → List Leaving
departures s now h =
    flat_map (λ (e : CallId × ClientRow). leaving_at_client s now e.0 e.1) (entries h.clients)
    ++ flat_map (λ (e : CallId × ServerRow). leaving_at_server e.0 e.1.state) (entries h.servers)

-- sends these bytes of a request, and with them the oldest finished call of the server
abbrev pub request_leaves : Settings → CallId → ClientRow → Range → Work → Work
request_leaves s id r range w =
    let finished = finished_at w.host r.server in
    let content = request_content s (peer_cutoffs s w.host r.server).cutoffs (oldest finished) r range in
    let host = with_finished r.server (drop 1 finished) (record w.host { clients = insert w.host.clients id (client_sends s (now_of w) r) }) in
    tells (Sends (packet_from s w.host Client id r.server content) ∷ []) (spent (range.to - range.from) (record w { host = host }))

-- sends these bytes of a response, in a packet with this content
abbrev pub response_leaves : Settings → CallId → ServerRow → Content → Range → Work → Work
response_leaves s id row content range w =
    let host = record w.host { servers = insert w.host.servers id (record row { state = state_sends s (now_of w) row.state }) } in
    tells (Sends (packet_from s w.host Server id w.host.id content) ∷ []) (spent (range.to - range.from) (record w { host = host }))

-- the next piece of a call's request is sent, if there is one and the credit is enough
abbrev pub client_leaves : Settings → CallId → Option ClientRow → Work → Option Work
client_leaves s id None w = None
client_leaves s id (Some r) w = if_affordable (next_range r.out s.seg) w (λ range. request_leaves s id r range w)

-- the next piece of a response that goes out is sent, if there is one and the credit is enough; no other state sends any
abbrev pub state_leaves : Settings → CallId → ServerRow → State → Work → Option Work
state_leaves s id row (Replying response out order base count) w =
    if_affordable (next_range out s.seg) w
    (λ range. response_leaves s id row (response_content s (peer_cutoffs s w.host id.client).cutoffs response out range) range w)
state_leaves s id row state w = None

-- the next piece of a call's response is sent, if there is one and the credit is enough
abbrev pub server_leaves : Settings → CallId → Option ServerRow → Work → Option Work
server_leaves s id None w = None
server_leaves s id (Some row) w = state_leaves s id row row.state w

-- the next piece of this row's outgoing message is sent, if there is one and the credit is enough
abbrev pub leaves_from : Settings → Place → Work → Option Work
leaves_from s (OfClient id) w = client_leaves s id (get w.host.clients id) w
leaves_from s (OfServer id) w = server_leaves s id (get w.host.servers id) w

-- this message sends its next piece, if the credit is enough; without a message nothing is sent
abbrev pub first_leaves : Settings → Option Leaving → Work → Option Work
first_leaves s None w = None
first_leaves s (Some l) w = leaves_from s l.place w

-- the thing that comes first by a key
abbrev pub least : {X : Type 0} → (X → ℕ × ℕ) → List X → Option X
least key xs = first_of (ordered key xs)

-- the first message that may be sent sends its next piece;
-- none if there is no such message, or if the piece has more bytes than the credit
-- Source: SIGCOMM 2018, "Basic sender behavior" (from memory). That bytes sent again don't count is a rule of this project.
unfoldable pub pumped_once : Settings → Work → Option Work
pumped_once s w = first_leaves s (least leaving_key (departures s (now_of w) w.host)) w

-- how many packets a step sends at most
-- A rule of this project.
abbrev pub most_packets : ℕ
most_packets = 64

-- the pump sends until it ends by itself, or until it has sent so many packets
-- A rule of this project, in the place of the pacer of the Linux module.
unfoldable pub pumps : Settings → ℕ → Work → Work
pumps s zero w = w
pumps s (suc n) w = elim (pumped_once s w) [ None ↦ w | Some after ↦ pumps s n after ]

-- the pump, for as many packets as the step may still send
abbrev pub pump : Settings → Work → Work
pump s w = pumps s (most_packets - length (packets_in w.told)) w
