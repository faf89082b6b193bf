-- UNKNOWN: what a server says of a call that it has no row of, or that it buried. What the client does then is in `AtClient`.
use Rattle.std.specs.Prelude.{None, Some, [], ◌∷◌}
use Rattle.homa_plain.specs.declared.packet.Body.{Body}
use Rattle.homa_plain.specs.declared.packet.Body.TheVariants as body
use Rattle.homa_plain.specs.Rows.{ServerRow}
use Rattle.homa_plain.specs.Rules.{Moment, Posts, Did, leaves, keeps, says}

-- a packet that opens no row comes where none is: RESEND is answered with UNKNOWN 0, which says that there is none
-- A rule of this project; the packet's name is that of the Linux module. In SIGCOMM 2018, "Lost packets" (from memory),
-- such a server asks for the request by RESEND.
abbrev pub without_row : Moment → Body → Did ServerRow
without_row m (body.Resend from to prio) = says m None (Posts (body.Unknown 0) ∷ [])
without_row m body = leaves m None

-- the call is buried: DATA and RESEND are answered with UNKNOWN 1, which says that the call ran
-- A rule of this project.
abbrev pub buried_gets : Moment → Body → ServerRow → Did ServerRow
buried_gets m (body.Data size offset version service ack) row = says m (Some row) (Posts (body.Unknown 1) ∷ [])
buried_gets m (body.Resend from to prio) row = says m (Some row) (Posts (body.Unknown 1) ∷ [])
buried_gets m body row = keeps m row
