-- What a packet that is sent changes of what is kept.
use Rattle.std.specs.Prelude.{ℕ, Bool, true, ◌==◌, ◌&&◌, ◌||◌, not, is_some, if◌then◌else◌, Option, Some, None, length}
use Rattle.homa_plain.specs.declared.id.CallId.{CallId}
use Rattle.homa_plain.specs.declared.id.HostId.{HostId}
use Rattle.homa_plain.specs.declared.packet.Body.{Body}
use Rattle.homa_plain.specs.declared.packet.Body.TheVariants as body
use Rattle.homa_plain.specs.Calls.{is_host}
use Rattle.homa_plain.specs.Entries.{PlainEntry, PlainDeliver, PlainRecv, PlainStale, PlainSend, PlainGaps, PlainFullRows, PlainFullPages}
use Rattle.homa_plain.specs.Wire.{is_client, is_server}
use Rattle.std.specs.Option.{option_map, option_map_or}
use Rattle.trace_rules.specs.View.{View}
use Rattle.check_call.specs.Spots.{spot}
use Rattle.check_call.specs.declared.call.Call.{Call}
use Rattle.check_call.specs.declared.packet.Packet.{Packet}
use Rattle.check_call.specs.declared.spot.Change.{Change}
use Rattle.check_call.specs.declared.spot.Change.TheVariants.{Nothing, Renewed, Told, RaisedRequest, RaisedResponse}
use Rattle.check_call.specs.Kept.{piece_has_last, is_within_spot}
use Rattle.check_lines.specs.declared.block.Delivery.{Delivery}
use Rattle.check_lines.specs.declared.host.Host.{Host}
use Rattle.check_lines.specs.declared.trace.Trace.{Trace}
use Rattle.check_lines.specs.Traces.{own_tick_in, first_of, restarts_in}

-- what a GRANT does to a call of this server
abbrev pub granted_by : Packet → HostId → ℕ → Change
granted_by k server offset =
    if is_server k.role
    then (if is_host server k.from && is_host k.id.client k.to then RaisedRequest offset else Nothing)
    else (if is_host k.id.client k.from && is_host server k.to then RaisedResponse offset else Nothing)

-- what a packet does to its call
abbrev pub change_by : Trace → Call → Packet → Body → Change
change_by t c k (body.Grant offset prio) = granted_by k c.server offset
change_by t c k (body.Resend from to prio) = if is_client k.role then Told (own_tick_in t k.id.client) t.settings.resend else Nothing
change_by t c k (body.Data size offset version service ack) = if is_client k.role && not c.sent_last then Renewed else Nothing
change_by t c k other = Nothing

-- the incarnation of a host's first life, with one packet more
abbrev pub first_after : Option Host → ℕ → Option ℕ
first_after o inc = if length (restarts_in o) == 0 && not (is_some (first_of o)) then Some inc else first_of o

-- whether the last byte of the request was sent, with one packet more
abbrev pub sent_with : Packet → Call → Call
sent_with k c = record c { sent_last = c.sent_last || piece_has_last (length c.request.items) k.role k.piece }

-- the call whose messages are to be tested behind a line, if any
abbrev pub tested : Option Delivery → PlainEntry → Option CallId
tested d (PlainSend number from to inc role id level body payload) = Some id
tested d (PlainDeliver packet) = option_map (λ x. x.packet.id) d
tested d (PlainRecv host from bytes) = option_map (λ x. x.packet.id) d
tested d (PlainStale host at now) = option_map (λ x. x.packet.id) d
tested d (PlainGaps host id) = option_map (λ x. x.packet.id) d
tested d (PlainFullRows host id rows limit) = option_map (λ x. x.packet.id) d
tested d (PlainFullPages host id need free) = option_map (λ x. x.packet.id) d
tested d line = None

-- the messages of a call, if there is one, are within their windows
abbrev pub keeps_window : View → Option CallId → Bool
keeps_window v id = option_map_or (λ q. is_within_spot v.settings.window (spot v.now q)) id true
