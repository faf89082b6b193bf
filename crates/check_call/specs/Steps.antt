-- What a line does to each call's spot, and to what the block's delivery changed.
use Rattle.std.specs.Prelude.{ℕ, ◌&&◌, Bool, true, false, if◌then◌else◌, Option, None, Some, List}
use Rattle.std.specs.Option.{option_map, option_map_or}
use Rattle.homa_plain.specs.declared.id.CallId.{CallId}
use Rattle.homa_plain.specs.declared.id.HostId.{HostId}
use Rattle.homa_plain.specs.Entries.{PlainEntry, PlainSettings, PlainCall, PlainDeliver, PlainClock, PlainRestart, PlainInject, PlainShift}
use Rattle.homa_plain.specs.Entries.{PlainStale, PlainSend, PlainDone, PlainFail, PlainDrop, PlainGaps, PlainFullRows, PlainFullPages, PlainRecv}
use Rattle.homa_plain.specs.Calls.{is_host, is_call}
use Rattle.trace_rules.specs.View.{Sent, View, is_server_of}
use Rattle.trace_rules.specs.Seen.{begun, delivery}
use Rattle.check_call.specs.Spots.{Spot, spot, only, started_spot, finished_spot, dropped_spot, said_spot, restarted_spot, counted_spot}
use Rattle.check_call.specs.Spots.{delivered_spot, due_if_refused, Undo, undo_each}

-- nothing changes
abbrev pub unmoved : CallId → Spot → Spot
unmoved q s = s

-- whether the block began with the delivery of a packet of this call to this host
abbrev pub is_undone : Option Undo → HostId → CallId → Bool
is_undone o host id = option_map_or (λ u. is_call u.packet.id id && is_host u.packet.to host) o false

-- a packet is delivered, or none: only the spot of its call changes
abbrev pub delivered_at : View → Option Sent → CallId → Spot → Spot
delivered_at v None = unmoved
delivered_at v (Some p) = only p.id (delivered_spot v p)

-- the block's delivery is refused: its call is as it is without the packet's bytes
abbrev pub taken_back : Option Undo → CallId → Spot → Spot
taken_back None = unmoved
taken_back (Some u) = only u.packet.id (λ _. u.refused)

-- the block's delivery is stale: its call is as if nothing had been delivered
abbrev pub undone : Option Undo → CallId → Spot → Spot
undone None = unmoved
undone (Some u) = only u.packet.id (λ _. u.stale)

-- `full` or `gaps` at a host for a call: the block's delivery is refused, if it is of this call to this host
abbrev pub refused_at : Option Undo → HostId → CallId → CallId → Spot → Spot
refused_at o host id q s = if is_undone o host id then taken_back o q s else s

-- a host gives up a call's request: what has arrived of it goes, if the host is the call's server
abbrev pub dropped_at : View → HostId → CallId → Spot → Spot
dropped_at v host id s = if is_server_of v id host then dropped_spot s else s

-- what a line does to each call's spot
abbrev pub line_at : View → Option Undo → PlainEntry → CallId → Spot → Spot
line_at v o (PlainCall id server service bytes) = only id started_spot
line_at v o (PlainDeliver packet) = delivered_at (begun v) (delivery v (PlainDeliver packet))
line_at v o (PlainRecv host from bytes) = delivered_at (begun v) (delivery v (PlainRecv host from bytes))
line_at v o (PlainRestart host inc) = restarted_spot v host
line_at v o (PlainStale host at now) = undone o
line_at v o (PlainSend number from to inc role id level body payload) =
    only id (said_spot v (record { from = from; to = to; inc = inc; role = role; id = id; body = body; payload = payload }) body)
line_at v o (PlainDone id bytes) = only id finished_spot
line_at v o (PlainFail id why) = only id finished_spot
line_at v o (PlainDrop host id) = only id (dropped_at v host id)
line_at v o (PlainGaps host id) = refused_at o host id
line_at v o (PlainFullRows host id rows limit) = refused_at o host id
line_at v o (PlainFullPages host id need free) = refused_at o host id
line_at v o line = unmoved

-- what the delivery of a packet leaves to be taken back
abbrev pub undo_of : View → Sent → Undo
undo_of v p = record { packet = p; refused = counted_spot v p (spot v.now p.id); stale = spot v.now p.id; due = due_if_refused v p (spot v.now p.id) }

-- what a line does to that
abbrev pub undo_after : View → Option Undo → PlainEntry → Option Undo
undo_after v o (PlainCall id server service bytes) = None
undo_after v o (PlainDeliver packet) = option_map (undo_of (begun v)) (delivery v (PlainDeliver packet))
undo_after v o (PlainRecv host from bytes) = option_map (undo_of (begun v)) (delivery v (PlainRecv host from bytes))
undo_after v o (PlainClock tick) = None
undo_after v o (PlainRestart host inc) = None
undo_after v o (PlainInject host bytes) = None
undo_after v o (PlainShift host n) = None
undo_after v o (PlainStale host at now) = None
undo_after v o (PlainSend number from to inc role id level body payload) =
    option_map (undo_each (only id (said_spot v (record { from = from; to = to; inc = inc; role = role; id = id; body = body; payload = payload }) body))) o
undo_after v o (PlainDone id bytes) = option_map (undo_each (only id finished_spot)) o
undo_after v o (PlainFail id why) = option_map (undo_each (only id finished_spot)) o
undo_after v o (PlainDrop host id) = option_map (undo_each (only id (dropped_at v host id))) o
undo_after v o line = o
