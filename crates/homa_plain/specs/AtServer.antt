-- What a packet of its client does to a call's row at its server.
use Rattle.std.specs.Prelude.{ℕ, ◌+◌, ◌==◌, not, ◌||◌, nat_lt, nat_le, if◌then◌else◌, Option, None, Some, List, [], ◌∷◌, length}
use Rattle.homa_plain.specs.declared.id.CallId.{CallId}
use Rattle.homa_plain.specs.declared.packet.Body.{Body}
use Rattle.homa_plain.specs.declared.packet.Body.TheVariants as body
use Rattle.homa_plain.specs.declared.settings.Settings.{Settings}
use Rattle.homa_plain.specs.Incoming.{Incoming, with_bytes, leaves_too_many_gaps, is_whole, message}
use Rattle.homa_plain.specs.Incoming as incoming
use Rattle.homa_plain.specs.Outgoing.{Outgoing, grant}
use Rattle.homa_plain.specs.Busy.{Resent, resend, busy_for}
use Rattle.homa_plain.specs.Outgoing as outgoing
use Rattle.homa_plain.specs.Entries.{PlainRun, PlainFullRows, PlainFullPages, PlainGaps}
use Rattle.homa_plain.specs.Packets.{Packet}
use Rattle.homa_plain.specs.Rows.{ServerRow, State, Receiving, Held, Replying, Buried}
use Rattle.homa_plain.specs.Host.{pages_for}
use Rattle.homa_plain.specs.Unknown.{without_row, buried_gets}
use Rattle.homa_plain.specs.Rules.{Moment, Answer, Piece, Tells, Posts, Did, leaves, keeps, says, opening, version_of}

-- the row in another state
abbrev pub with_state : ServerRow → State → ServerRow
with_state row state = record row { state = state }

-- the response is sent from now on, which takes an order number
-- A rule of this project.
abbrev pub replying : Settings → ℕ → List ℕ → ServerRow → Did ServerRow → Did ServerRow
replying s now response row d = record d {
  row = Some (with_state row (Replying response (outgoing.opened (length response) s.unsched) d.order now 0));
  order = d.order + 1;
}

-- ---- pieces of the request

-- the request is whole, and the service runs
-- A rule of this project, so that no call runs twice in an incarnation.
abbrev pub runs : Settings → Moment → CallId → ℕ → List ℕ → Answer → ServerRow → Did ServerRow → Did ServerRow
runs s m id service request answer row d =
    let told = record d { says = Tells (PlainRun m.host id service request answer.bytes answer.hold) ∷ [] } in
    if answer.hold == 0
    then replying s m.now answer.bytes row told
    else record told { row = Some (with_state row (Held answer.bytes (m.now + answer.hold))) }

-- the request with the piece
-- A rule of this project.
abbrev pub piece_added : Settings → Moment → CallId → ℕ → Answer → ServerRow → Incoming → Did ServerRow → Did ServerRow
piece_added s m id service answer row part d =
    if is_whole part
    then runs s m id service (message part) answer row d
    else record d { row = Some (with_state row (Receiving service part m.now 0)) }

-- adds a piece to a request, which may just have been opened;
-- a piece of another length, or for another service, does nothing
abbrev pub piece_comes : Settings → Moment → CallId → ℕ → Incoming → ServerRow → Piece → Answer → Did ServerRow → Did ServerRow
piece_comes s m id service part row piece answer d =
    if not (part.length == piece.size) || not (service == piece.service)
    then record d { row = Some row }
    else if leaves_too_many_gaps part piece.offset piece.payload
    then record d { row = Some (with_state row (Receiving service part m.now 0)); version = version_of piece; says = Tells (PlainGaps m.host id) ∷ [] }
    else piece_added s m id service answer row (with_bytes part piece.offset piece.payload) (record d { version = version_of piece })

-- opens the request with its first piece, if there are a row and pages for it
-- A rule of this project: without a row or pages the request is refused (`full`), and its client asks again.
abbrev pub opens : Settings → Moment → CallId → Piece → Answer → Did ServerRow
opens s m id piece answer =
    if nat_le s.served m.rows
    then says m None (Tells (PlainFullRows m.host id m.rows s.served) ∷ [])
    else if nat_lt m.free (pages_for piece.size)
    then says m None (Tells (PlainFullPages m.host id (pages_for piece.size) m.free) ∷ [])
    else (let part = incoming.opened id.client piece.size m.order s.unsched in
    piece_comes s m id piece.service part (record { order = m.order; state = Receiving piece.service part m.now 0 }) piece answer
    (opening piece.size (leaves m None)))

-- ---- packets, by the state of the row

-- a piece of a message, by the fields of its DATA packet and by its payload
abbrev pub piece_of : ℕ → ℕ → ℕ → ℕ → List ℕ → Piece
piece_of size offset version service payload = record { size = size; offset = offset; version = version; service = service; payload = payload }

-- a packet without a row: DATA opens one
abbrev pub unknown_gets : Settings → Moment → CallId → Body → List ℕ → Answer → Did ServerRow
unknown_gets s m id (body.Data size offset version service ack) payload answer = opens s m id (piece_of size offset version service payload) answer
unknown_gets s m id body payload answer = without_row m body

-- the request still arrives: DATA brings a piece, RESEND is answered with BUSY, and BUSY starts the timer anew;
-- RESEND and BUSY clear the count of tries
abbrev pub receiving_gets : Settings → Moment → CallId → Body → List ℕ → Answer → ServerRow → ℕ → Incoming → ℕ → Did ServerRow
receiving_gets s m id (body.Data size offset version service' ack) payload answer row service part base =
    piece_comes s m id service part row (piece_of size offset version service' payload) answer (leaves m None)
receiving_gets s m id (body.Resend from to prio) payload answer row service part base =
    says m (Some (with_state row (Receiving service part base 0))) (Posts body.Busy ∷ [])
receiving_gets s m id body.Busy payload answer row service part base = keeps m (with_state row (Receiving service part m.now 0))
receiving_gets s m id body payload answer row service part base = keeps m row

-- the response is held back: RESEND is answered with BUSY, and all other packets do nothing
-- BUSY: SIGCOMM 2018, "Lost packets" (from memory). That a response may be held back is a rule of this project.
abbrev pub held_gets : Moment → Body → ServerRow → Did ServerRow
held_gets m (body.Resend from to prio) row = says m (Some row) (Posts body.Busy ∷ [])
held_gets m body row = keeps m row

-- the row with its timer started anew and this outgoing message
abbrev pub touched : Moment → ServerRow → List ℕ → Outgoing → ℕ → ServerRow
touched m row response out order = with_state row (Replying response out order m.now 0)

-- a RESEND of bytes of the response: the timer starts anew, and BUSY is sent if nothing was queued
-- Source: SIGCOMM 2018, "Lost packets" (from memory).
abbrev pub response_resent : Moment → ServerRow → List ℕ → ℕ → Resent → Did ServerRow
response_resent m row response order resent = says m (Some (touched m row response resent.part order)) (busy_for resent.answer)

-- the response is sent: GRANT and RESEND are for it, and every packet except ACK starts the timer anew
abbrev pub replying_gets : Moment → Body → ServerRow → List ℕ → Outgoing → ℕ → Did ServerRow
replying_gets m (body.Grant offset prio) row response out order = keeps m (touched m row response (grant out offset prio) order)
replying_gets m (body.Resend from to prio) row response out order = response_resent m row response order (resend out from to prio)
replying_gets m (body.Ack more) row response out order = keeps m row
replying_gets m body row response out order = keeps m (touched m row response out order)

-- a packet arrives for a row in this state
abbrev pub row_gets : Settings → Moment → CallId → Body → List ℕ → Answer → ServerRow → State → Did ServerRow
row_gets s m id body payload answer row (Receiving service part base count) = receiving_gets s m id body payload answer row service part base
row_gets s m id body payload answer row (Held response release) = held_gets m body row
row_gets s m id body payload answer row (Replying response out order base count) = replying_gets m body row response out order
row_gets s m id body payload answer row (Buried until) = buried_gets m body row

-- a packet of a client (role c) arrives at its server, without the calls that it acknowledges
unfoldable pub server_gets : Settings → Moment → Packet → Answer → Option ServerRow → Did ServerRow
server_gets s m p answer None = unknown_gets s m p.id p.body p.payload answer
server_gets s m p answer (Some row) = row_gets s m p.id p.body p.payload answer row row.state
