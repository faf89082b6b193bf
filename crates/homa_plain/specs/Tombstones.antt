-- Tombstones: what is left of a call that ran, and for how long. `Timers` takes it away; `span` is in `Settings`.
use Rattle.std.specs.Prelude.{ℕ, ◌+◌, nat_lt, if◌then◌else◌, Option, None, Some, List, [], ◌∷◌, ◌*◌}
use Rattle.homa_plain.specs.declared.id.CallId.{CallId}
use Rattle.homa_plain.specs.declared.packet.Body.TheVariants as body
use Rattle.homa_plain.specs.declared.settings.Settings.{Settings}
use Rattle.homa_plain.specs.Settings.{span, patience}
use Rattle.homa_plain.specs.Outgoing.{Outgoing}
use Rattle.homa_plain.specs.Entries.{PlainBury}
use Rattle.homa_plain.specs.Rows.{ServerRow, State, Receiving, Held, Replying, Buried}
use Rattle.homa_plain.specs.Rules.{Moment, Tells, Posts, Did, leaves, keeps, says}
use Rattle.homa_plain.specs.AtServer.{with_state}

-- keeps of the call only that it ran, up to a tick: the tombstone
-- A rule of this project, so that no call runs twice; in SIGCOMM 2018, "At-least-once semantics",
-- some do (from memory).
abbrev pub buried : Moment → CallId → ℕ → ServerRow → Did ServerRow
buried m id until row = says m (Some (with_state row (Buried until))) (Tells (PlainBury m.host id until) ∷ [])

-- the client has finished the call: if it ran and isn't buried, it is buried for a span
-- A rule of this project: for a span a late packet of the call may still arrive.
abbrev pub state_acked : Settings → Moment → CallId → ServerRow → State → Did ServerRow
state_acked s m id row (Receiving service part base count) = keeps m row
state_acked s m id row (Held response release) = buried m id (m.now + span s) row
state_acked s m id row (Replying response out order base count) = buried m id (m.now + span s) row
state_acked s m id row (Buried until) = keeps m row

-- the client has finished the call
unfoldable pub server_acked : Settings → Moment → CallId → Option ServerRow → Did ServerRow
server_acked s m id None = leaves m None
server_acked s m id (Some row) = state_acked s m id row row.state

-- The server asks whether the response has arrived; after `tries` NEED_ACKs without an answer it buries the call.
-- A rule of this project: its last packet may be under way for a span, the client may be patient after that,
-- and then its request may be under way for a span; so the tombstone stays for all three.
abbrev pub replying_acts : Settings → Moment → CallId → ServerRow → List ℕ → Outgoing → ℕ → ℕ → Did ServerRow
replying_acts s m id row response out order count =
    if nat_lt count s.tries
    then says m (Some (with_state row (Replying response out order m.now (count + 1)))) (Posts body.NeedAck ∷ [])
    else buried m id (m.now + 2 * span s + patience s) row
