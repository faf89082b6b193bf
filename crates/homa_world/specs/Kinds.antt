-- As what the lines of a trace are counted.
use Rattle.std.specs.Prelude.{ℕ, zero, suc, Option, None, Some, slice_get}
use Rattle.std.specs.Option.{option_map}
use Rattle.homa_plain.specs.declared.packet.Body.{Body}
use Rattle.homa_plain.specs.declared.entry.Why.TheVariants.{Timeout, Forgotten}
use Rattle.homa_plain.specs.Entries.{PlainEntry, PlainCall, PlainDeliver, PlainClock, PlainSend, PlainRun, PlainDone, PlainFail}
use Rattle.homa_plain.specs.Kinds.{body_kind, kinds}
use Rattle.homa_world.specs.declared.kinds.LineKind.{LineKind}
use Rattle.homa_world.specs.declared.kinds.LineKind.TheVariants as line

-- the kind of a packet's line
abbrev pub packet_kind : Body → LineKind
packet_kind what = line.Sent (body_kind what)

-- the kind of an entry's line, if it is counted
abbrev pub kind_of : PlainEntry → Option LineKind
kind_of (PlainCall id server service bytes) = Some line.Call
kind_of (PlainRun host id service request response hold) = Some line.Run
kind_of (PlainDone id bytes) = Some line.Done
kind_of (PlainFail id Timeout) = Some line.Timeout
kind_of (PlainFail id Forgotten) = Some line.Forgotten
kind_of (PlainDeliver packet) = Some line.Deliver
kind_of (PlainClock tick) = Some line.Clock
kind_of (PlainSend number from to inc role id level what payload) = Some (packet_kind what)
kind_of e = None

-- the kind of a packet's line, by the number that its kind has in a datagram
abbrev pub kind_numbered : ℕ → Option LineKind
kind_numbered zero = None
kind_numbered (suc place) = option_map line.Sent (slice_get kinds place)
