-- What entries lines tell: those whose numbers their types hold, but for a refusal for want of memory.
use Rattle.std.specs.Prelude.{◌≡◌, ℕ, ◌^◌, ◌<◌, ◌≤◌, IfSome, List, length}
use Rattle.std.specs.List.{AllByRecursion}
use Rattle.homa_plain.specs.Bytes.{IsBytes}
use Rattle.homa_plain.specs.Wire.{IsBare}
use Rattle.homa_plain.specs.Text.{settings_numbers}
use Rattle.homa_plain.specs.Entries.{PlainEntry, PlainSettings, PlainCall, PlainDeliver, PlainClock, PlainRestart, PlainInject, PlainShift, PlainJunk}
use Rattle.homa_plain.specs.Entries.{PlainStale, PlainSend, PlainRun, PlainDone, PlainFail, PlainDrop, PlainGaps, PlainBury, PlainFree, PlainFullRows}
use Rattle.homa_plain.specs.Entries.{PlainFullPages, PlainBalance, PlainRecv, PlainFinished, PlainRefused, PlainStalled}
use Rattle.homa_plain.specs.declared.id.CallId.{CallId}
use Rattle.homa_plain.specs.declared.id.HostId.{HostId}
use Rattle.homa_plain.specs.declared.packet.Body.{Body}
use Rattle.homa_plain.specs.declared.packet.Body.TheVariants as body
use Rattle.homa_plain.specs.declared.packet.Cutoffs.{Cutoffs}
use Rattle.homa_plain.specs.declared.fault.WorldFault.{WorldFault}
use Rattle.homa_plain.specs.declared.fault.WorldFault.TheVariants.{NoSuchHost, NoSuchPacket, Late, Start, NoSpare, ClockEnd, Decodes, NoMemory, OutOfBand, Back}
use Rattle.homa_plain.specs.declared.fault.LineFault.{LineFault}
use Rattle.homa_plain.specs.declared.fault.LineFault.TheVariants.{Script, World}

-- a host's number has 16 bits
abbrev pub FitsHost : HostId → Type 0
FitsHost host = host.0 < 2 ^ 16

-- an incarnation and a sequence number have 32 bits each
abbrev pub FitsCall : ℕ × ℕ → Type 0
FitsCall call = (call.0 < 2 ^ 32) × (call.1 < 2 ^ 32)

-- a call with its client
abbrev pub FitsId : CallId → Type 0
FitsId id = FitsHost id.client × FitsCall (id.inc, id.seq)

-- a version of 16 bits, and eight bounds of 32
abbrev pub FitsCutoffs : Cutoffs → Type 0
FitsCutoffs cutoffs = (cutoffs.version < 2 ^ 16) × (length cutoffs.upto ≡ 8) × AllByRecursion (λ bound. bound < 2 ^ 32) cutoffs.upto

-- what a packet says
abbrev pub FitsBody : Body → Type 0
FitsBody (body.Data size offset version service ack) = (size < 2 ^ 32) × (offset < 2 ^ 32) × (version < 2 ^ 16) × (service < 2 ^ 8) × IfSome ack FitsCall
FitsBody (body.Grant offset prio) = (offset < 2 ^ 32) × (prio < 2 ^ 8)
FitsBody (body.Resend from to prio) = (from < 2 ^ 32) × (to < 2 ^ 32) × (prio < 2 ^ 8)
FitsBody body.Busy = Unit {0}
FitsBody (body.Cutoffs cutoffs) = FitsCutoffs cutoffs
FitsBody (body.Unknown reason) = reason < 2 ^ 8
FitsBody body.NeedAck = Unit {0}
FitsBody (body.Ack more) = (length more ≤ 4) × AllByRecursion FitsCall more

-- why a line is refused, which is told: want of memory isn't
abbrev pub FitsWorldFault : WorldFault → Type 0
FitsWorldFault NoSuchHost = Unit {0}
FitsWorldFault NoSuchPacket = Unit {0}
FitsWorldFault (Late sent now) = (sent < 2 ^ 64) × (now < 2 ^ 64)
FitsWorldFault (Start fault) = Unit {0}
FitsWorldFault NoSpare = Unit {0}
FitsWorldFault ClockEnd = Unit {0}
FitsWorldFault Decodes = Unit {0}
FitsWorldFault NoMemory = ⊥
FitsWorldFault (OutOfBand n most) = (n < 2 ^ 32) × (most < 2 ^ 32)
FitsWorldFault (Back last now) = (last < 2 ^ 64) × (now < 2 ^ 64)

-- a refusal that is told, with numbers that fit their types: any but the one for want of memory
abbrev pub FitsFault : LineFault → Type 0
FitsFault (Script fault) = Unit {0}
FitsFault (World fault) = FitsWorldFault fault

-- an entry that is told, whose numbers are each one of their type
abbrev pub Fits : PlainEntry → Type 0
Fits (PlainSettings settings) = AllByRecursion (λ n. n < 2 ^ 32) (settings_numbers settings)
Fits (PlainCall id server service bytes) = FitsId id × FitsHost server × (service < 2 ^ 8) × IsBytes bytes
Fits (PlainDeliver packet) = packet < 2 ^ 64
Fits (PlainClock tick) = tick < 2 ^ 64
Fits (PlainRestart host inc) = FitsHost host × (inc < 2 ^ 32)
Fits (PlainInject host bytes) = FitsHost host × IsBytes bytes
Fits (PlainShift host n) = FitsHost host × (n < 2 ^ 32)
Fits (PlainJunk host) = FitsHost host
Fits (PlainStale host at now) = FitsHost host × (at < 2 ^ 64) × (now < 2 ^ 64)
Fits (PlainSend number from to inc role id level what payload) =
    (number < 2 ^ 64) × (FitsHost from × FitsHost to) × (inc < 2 ^ 32) × FitsId id × (level < 2 ^ 8) × FitsBody what × IsBytes payload
Fits (PlainRun host id service request response hold) = FitsHost host × FitsId id × (service < 2 ^ 8) × IsBytes request × IsBytes response × (hold < 2 ^ 32)
Fits (PlainDone id bytes) = FitsId id × IsBytes bytes
Fits (PlainFail id why) = FitsId id
Fits (PlainDrop host id) = FitsHost host × FitsId id
Fits (PlainGaps host id) = FitsHost host × FitsId id
Fits (PlainBury host id until) = FitsHost host × FitsId id × (until < 2 ^ 64)
Fits (PlainFree host id) = FitsHost host × FitsId id
Fits (PlainFullRows host id rows limit) = FitsHost host × FitsId id × (rows < 2 ^ 32) × (limit < 2 ^ 32)
Fits (PlainFullPages host id need free) = FitsHost host × FitsId id × (need < 2 ^ 32) × (free < 2 ^ 32)
Fits (PlainBalance host cutoffs) = FitsHost host × FitsCutoffs cutoffs
Fits (PlainRecv host from bytes) = FitsHost host × FitsHost from × IsBytes bytes
Fits (PlainFinished n) = n < 2 ^ 64
Fits (PlainRefused line fault) = (line < 2 ^ 64) × FitsFault fault
Fits (PlainStalled turns now) = (turns < 2 ^ 64) × (now < 2 ^ 64)

-- but for DATA, a packet has level 7 and no payload: its line tells neither
abbrev pub IsBareButData : ℕ → Body → List ℕ → Type 0
IsBareButData level (body.Data size offset version service ack) payload = Unit {0}
IsBareButData level (body.Grant offset prio) payload = IsBare level payload
IsBareButData level (body.Resend from to prio) payload = IsBare level payload
IsBareButData level body.Busy payload = IsBare level payload
IsBareButData level (body.Cutoffs cutoffs) payload = IsBare level payload
IsBareButData level (body.Unknown reason) payload = IsBare level payload
IsBareButData level body.NeedAck payload = IsBare level payload
IsBareButData level (body.Ack more) payload = IsBare level payload

-- a packet that is sent is so; any other entry is
abbrev pub IsUsual : PlainEntry → Type 0
IsUsual (PlainSend number from to inc role id level what payload) = IsBareButData level what payload
IsUsual entry = Unit {0}
