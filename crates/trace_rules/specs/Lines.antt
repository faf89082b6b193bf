-- The kinds of lines of a trace, and the calls that they name.
use Rattle.std.specs.Prelude.{◌||◌, Bool, true, false, Option, None, Some}
use Rattle.homa_plain.specs.declared.id.CallId.{CallId}
use Rattle.homa_plain.specs.Entries.{PlainEntry, PlainCall, PlainDeliver, PlainClock, PlainRestart, PlainInject, PlainShift, PlainSend, PlainRun}
use Rattle.homa_plain.specs.Entries.{PlainDone, PlainFail, PlainDrop, PlainGaps, PlainBury, PlainFree, PlainFullRows, PlainFullPages, PlainRecv}
use Rattle.homa_plain.specs.Entries.{PlainFinished, PlainRefused, PlainStalled}

-- the line of an event: a block is such a line with all lines up to the next one
abbrev pub is_event : PlainEntry → Bool
is_event (PlainCall id server service bytes) = true
is_event (PlainDeliver packet) = true
is_event (PlainRecv host from bytes) = true
is_event (PlainClock tick) = true
is_event (PlainRestart host inc) = true
is_event (PlainInject host bytes) = true
is_event (PlainShift host n) = true
is_event line = false

-- a last line: no line comes after it
abbrev pub is_last : PlainEntry → Bool
is_last (PlainFinished n) = true
is_last (PlainRefused line fault) = true
is_last (PlainStalled turns now) = true
is_last line = false

-- a line that closes a block: the next event's line, or a last line
abbrev pub closes : PlainEntry → Bool
closes line = is_event line || is_last line

-- the call that a line names, other than a `call` line
abbrev pub named : PlainEntry → Option CallId
named (PlainSend number from to inc role id level body payload) = Some id
named (PlainRun host id service request response hold) = Some id
named (PlainDone id bytes) = Some id
named (PlainFail id why) = Some id
named (PlainDrop host id) = Some id
named (PlainGaps host id) = Some id
named (PlainBury host id until) = Some id
named (PlainFree host id) = Some id
named (PlainFullRows host id rows limit) = Some id
named (PlainFullPages host id need free) = Some id
named line = None
