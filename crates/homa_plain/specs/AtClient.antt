-- What a packet of its server does to a call's row at its client: UNKNOWN, which a server sends by `Unknown`, and NEED_ACK among them.
use Rattle.std.specs.Prelude.{ℕ, ◌==◌, not, nat_lt, true, if◌then◌else◌, Option, None, Some, List, [], ◌∷◌}
use Rattle.homa_plain.specs.declared.id.CallId.{CallId}
use Rattle.homa_plain.specs.declared.packet.Body.{Body}
use Rattle.homa_plain.specs.declared.packet.Body.TheVariants as body
use Rattle.homa_plain.specs.declared.settings.Settings.{Settings}
use Rattle.homa_plain.specs.declared.entry.Why.TheVariants.{Forgotten}
use Rattle.homa_plain.specs.Calls.{is_host}
use Rattle.homa_plain.specs.Incoming.{Incoming, with_bytes, leaves_too_many_gaps, is_whole, message}
use Rattle.homa_plain.specs.Incoming as incoming
use Rattle.homa_plain.specs.Busy.{Resent, resend, busy_for}
use Rattle.homa_plain.specs.Outgoing.{grant, restart}
use Rattle.homa_plain.specs.Entries.{PlainDone, PlainFail, PlainFullPages, PlainGaps}
use Rattle.homa_plain.specs.Packets.{Packet, sender}
use Rattle.homa_plain.specs.Rows.{ClientRow}
use Rattle.homa_plain.specs.Host.{pages_for}
use Rattle.homa_plain.specs.Rules.{Moment, Piece, Tells, Posts, Did, leaves, keeps, says, opening, version_of}

-- drops what an earlier incarnation of the server sent of the response, if the packet is of a later one
-- A rule of this project: the paper's servers don't restart under a live call.
abbrev pub renewed : ℕ → ClientRow → ClientRow
renewed inc r = if nat_lt r.seen inc then record r { seen = inc; part = None } else r

-- notes that the server was heard of, except through UNKNOWN; NEED_ACK and CUTOFFS leave the timer's base
-- A rule of this project.
abbrev pub refreshed : ℕ → Body → ClientRow → ClientRow
refreshed now (body.Unknown reason) r = r
refreshed now body.NeedAck r = record r { heard = now; count = 0 }
refreshed now (body.Cutoffs cutoffs) r = record r { heard = now; count = 0 }
refreshed now body r = record r { heard = now; base = now; count = 0 }

-- the row with what has arrived of the response
abbrev pub with_part : ClientRow → Incoming → ClientRow
with_part r part = record r { part = Some part }

-- ---- pieces of the response

-- adds a piece to the response; if the response is whole, the call is done
-- A rule of this project.
abbrev pub piece_added : CallId → ClientRow → Incoming → Did ClientRow → Did ClientRow
piece_added id r part d =
    if is_whole part
    then record d { row = None; says = Tells (PlainDone id (message part)) ∷ []; finished = true }
    else record d { row = Some (with_part r part) }

-- adds a piece to a response, which may just have been opened; a piece of a message of another length is ignored
abbrev pub piece_comes : CallId → ClientRow → Incoming → Piece → Did ClientRow → Did ClientRow
piece_comes id r part piece d =
    if not (part.length == piece.size)
    then record d { row = Some (with_part r part) }
    else if leaves_too_many_gaps part piece.offset piece.payload
    then record d { row = Some (with_part r part); version = version_of piece; says = Tells (PlainGaps id.client id) ∷ [] }
    else piece_added id r (with_bytes part piece.offset piece.payload) (record d { version = version_of piece })

-- opens the response with its first piece, if there are pages for it
-- A rule of this project: a response takes its pages at its first piece, or it is refused (`full`).
abbrev pub response_piece : Settings → Moment → CallId → ClientRow → Option Incoming → Piece → Did ClientRow
response_piece s m id r None piece =
    if nat_lt m.free (pages_for piece.size)
    then says m (Some r) (Tells (PlainFullPages id.client id (pages_for piece.size) m.free) ∷ [])
    else piece_comes id r (incoming.opened r.server piece.size m.order s.unsched) piece (opening piece.size (keeps m r))
response_piece s m id r (Some part) piece = piece_comes id r part piece (keeps m r)

-- ---- packets

-- a RESEND of bytes of the request
abbrev pub request_resent : Moment → ClientRow → Resent → Did ClientRow
request_resent m r resent = says m (Some (record r { out = resent.part })) (busy_for resent.answer)

-- starts the request over if the server has no record of the call and no byte of the response arrived
-- A rule of this project.
abbrev pub started_over : ClientRow → Option Incoming → ClientRow
started_over r None = record r { out = restart r.out }
started_over r (Some part) = r

-- a packet of the server's latest incarnation
abbrev pub answered : Settings → Moment → CallId → Body → List ℕ → ClientRow → Did ClientRow
answered s m id (body.Data size offset version service ack) payload r =
    response_piece s m id r r.part (record { size = size; offset = offset; version = version; service = service; payload = payload })
answered s m id (body.Grant offset prio) payload r = keeps m (record r { out = grant r.out offset prio })
answered s m id (body.Resend from to prio) payload r = request_resent m r (resend r.out from to prio)
answered s m id body.Busy payload r = keeps m r
answered s m id (body.Cutoffs cutoffs) payload r = keeps m r
answered s m id (body.Unknown reason) payload r =
    if reason == 0 then keeps m (started_over r r.part) else says m None (Tells (PlainFail id Forgotten) ∷ [])
answered s m id body.NeedAck payload r = says m (Some r) (Posts body.Busy ∷ [])
answered s m id (body.Ack more) payload r = keeps m r

-- answers NEED_ACK with an ACK if the call isn't live; other packets of such a call do nothing
-- A rule of this project; the packets' names are those of the Linux module.
abbrev pub unasked : Moment → Body → Did ClientRow
unasked m body.NeedAck = says m None (Posts (body.Ack []) ∷ [])
unasked m body = leaves m None

-- a packet of a server (role s) arrives at its client;
-- one of another host, or of an earlier incarnation of the server, does nothing
unfoldable pub client_gets : Settings → Moment → Packet → Option ClientRow → Did ClientRow
client_gets s m p None = unasked m p.body
client_gets s m p (Some r) =
    if not (is_host (sender p) r.server) then keeps m r
    else if nat_lt p.inc r.seen then keeps m r
    else answered s m p.id p.body p.payload (refreshed m.now p.body (renewed p.inc r))
