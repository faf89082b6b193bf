-- The line of an entry: its words with one space between two, and a line feed.
use Rattle.std.specs.Prelude.{ℕ, ◌==◌, if◌then◌else◌, Option, None, Some, List, [], ◌∷◌, ◌++◌, map, take, codes}
use Rattle.std.specs.List.{join_with_byte}
use Rattle.std.specs.Fmt.{decimal}
use Rattle.hex.specs.Hex.{encode_lower}
use Rattle.homa_plain.specs.declared.id.CallId.{CallId}
use Rattle.homa_plain.specs.declared.id.HostId.{HostId}
use Rattle.homa_plain.specs.declared.packet.Role.{Role}
use Rattle.homa_plain.specs.declared.packet.Role.TheVariants.{Client, Server}
use Rattle.homa_plain.specs.declared.packet.Body.{Body}
use Rattle.homa_plain.specs.declared.packet.Body.TheVariants as body
use Rattle.homa_plain.specs.declared.packet.Cutoffs.{Cutoffs}
use Rattle.homa_plain.specs.declared.settings.Settings.{Settings}
use Rattle.homa_plain.specs.declared.settings.Name.{Name}
use Rattle.homa_plain.specs.declared.settings.Name.TheVariants as name
use Rattle.homa_plain.specs.declared.settings.SettingFault.{SettingFault}
use Rattle.homa_plain.specs.declared.settings.SettingFault.TheVariants.{OutOfRange, UnschedOverWindow, RateUnderSeg}
use Rattle.homa_plain.specs.declared.fault.StartFault.{StartFault}
use Rattle.homa_plain.specs.declared.fault.StartFault.TheVariants.{Empty, TooLong, SelfCall, CallsFull, SeqSpent}
use Rattle.homa_plain.specs.declared.fault.WorldFault.{WorldFault}
use Rattle.homa_plain.specs.declared.fault.WorldFault.TheVariants.{NoSuchHost, NoSuchPacket, Late, Start, NoSpare, ClockEnd, Decodes, NoMemory, OutOfBand, Back}
use Rattle.homa_plain.specs.declared.fault.ScriptFault.{ScriptFault}
use Rattle.homa_plain.specs.declared.fault.ScriptFault.TheVariants.{LongLine, NotUtf8, UnknownWord, BadNumber, BadHex, Extra, Missing, Setting, NoGo}
use Rattle.homa_plain.specs.declared.fault.ScriptFault.TheVariants.{InputTooLong}
use Rattle.homa_plain.specs.declared.fault.LineFault.{LineFault}
use Rattle.homa_plain.specs.declared.fault.LineFault.TheVariants.{Script, World}
use Rattle.homa_plain.specs.declared.entry.Why.{Why}
use Rattle.homa_plain.specs.declared.entry.Why.TheVariants.{Timeout, Forgotten}
use Rattle.homa_plain.specs.Kinds.{body_kind, kind_name}
use Rattle.homa_plain.specs.Entries.{PlainEntry, PlainSettings, PlainCall, PlainDeliver, PlainClock, PlainRestart, PlainInject, PlainShift, PlainJunk}
use Rattle.homa_plain.specs.Entries.{PlainStale, PlainSend, PlainRun, PlainDone, PlainFail, PlainDrop, PlainGaps, PlainBury, PlainFree, PlainFullRows}
use Rattle.homa_plain.specs.Entries.{PlainFullPages, PlainBalance, PlainRecv, PlainFinished, PlainRefused, PlainStalled}

-- words as a line
abbrev pub line_of_words : List (List ℕ) → List ℕ
line_of_words words = join_with_byte 32 words ++ 10 ∷ []

-- bytes in hex; a hyphen where there are none
abbrev pub hex_word : List ℕ → List ℕ
hex_word [] = codes "-"
hex_word (b ∷ bytes) = encode_lower (b ∷ bytes)

-- a host's number
abbrev pub host_word : HostId → List ℕ
host_word host = decimal host.0

-- an incarnation and a sequence number
abbrev pub call_word : ℕ × ℕ → List ℕ
call_word call = decimal call.0 ++ codes "." ++ decimal call.1

-- a call: its client, its incarnation and its sequence number
abbrev pub id_word : CallId → List ℕ
id_word id = host_word id.client ++ codes "." ++ call_word (id.inc, id.seq)

-- from whom to whom
abbrev pub route_word : HostId → HostId → List ℕ
route_word from to = host_word from ++ codes ">" ++ host_word to

-- the role of a packet's sender: client or server
abbrev pub role_word : Role → List ℕ
role_word Client = codes "c"
role_word Server = codes "s"

-- the call that a piece acknowledges; a hyphen where there is none
abbrev pub ack_word : Option (ℕ × ℕ) → List ℕ
ack_word None = codes "-"
ack_word (Some call) = call_word call

-- the kind of a packet
abbrev pub kind_word : Body → List ℕ
kind_word what = kind_name (body_kind what)

-- a version and the bounds of the eight levels
abbrev pub cutoffs_words : Cutoffs → List (List ℕ)
cutoffs_words cutoffs = decimal cutoffs.version ∷ map decimal cutoffs.upto

-- what follows the call in the line of a packet
abbrev pub body_words : ℕ → Body → List ℕ → List (List ℕ)
body_words level (body.Data length offset version service ack) payload =
    decimal level ∷ decimal length ∷ decimal offset ∷ decimal version ∷ decimal service ∷ ack_word ack ∷ hex_word payload ∷ []
body_words level (body.Grant offset prio) payload = decimal offset ∷ decimal prio ∷ []
body_words level (body.Resend from to prio) payload = decimal from ∷ decimal to ∷ decimal prio ∷ []
body_words level body.Busy payload = []
body_words level (body.Cutoffs cutoffs) payload = cutoffs_words cutoffs
body_words level (body.Unknown reason) payload = decimal reason ∷ []
body_words level body.NeedAck payload = []
body_words level (body.Ack more) payload = map call_word more

-- the fifteen numbers of the settings, in their order
abbrev pub settings_numbers : Settings → List ℕ
settings_numbers s = s.hosts ∷ s.seg ∷ s.window ∷ s.unsched ∷ s.overcommit ∷ s.rate ∷ s.resend ∷ s.tries ∷ s.life ∷ s.pages ∷ s.calls ∷ s.served ∷
    s.rebalance ∷ s.skew ∷ s.wire ∷ []

-- how many of them are printed: from the end, `wire` is left out if it is 1, and then `skew` if it is 0
abbrev pub told_numbers : Settings → ℕ
told_numbers s = if s.wire == 1 then (if s.skew == 0 then 13 else 14) else 15

-- the words of the settings' line
abbrev pub settings_words : Settings → List (List ℕ)
settings_words s = codes "settings" ∷ map decimal (take (told_numbers s) (settings_numbers s))

-- the name of a setting
abbrev pub name_word : Name → List ℕ
name_word name.Hosts = codes "hosts"
name_word name.Seg = codes "seg"
name_word name.Window = codes "window"
name_word name.Unsched = codes "unsched"
name_word name.Overcommit = codes "overcommit"
name_word name.Rate = codes "rate"
name_word name.Resend = codes "resend"
name_word name.Tries = codes "tries"
name_word name.Life = codes "life"
name_word name.Pages = codes "pages"
name_word name.Calls = codes "calls"
name_word name.Served = codes "served"
name_word name.Rebalance = codes "rebalance"
name_word name.Skew = codes "skew"
name_word name.Wire = codes "wire"

-- why a call can't start
abbrev pub start_word : StartFault → List ℕ
start_word Empty = codes "Empty"
start_word TooLong = codes "TooLong"
start_word SelfCall = codes "SelfCall"
start_word CallsFull = codes "CallsFull"
start_word SeqSpent = codes "SeqSpent"

-- why settings are refused
abbrev pub setting_words : SettingFault → List (List ℕ)
setting_words (OutOfRange name) = codes "OutOfRange" ∷ name_word name ∷ []
setting_words UnschedOverWindow = codes "UnschedOverWindow" ∷ []
setting_words RateUnderSeg = codes "RateUnderSeg" ∷ []

-- why an input's line is refused before any world is asked
abbrev pub script_words : ScriptFault → List (List ℕ)
script_words LongLine = codes "LongLine" ∷ []
script_words NotUtf8 = codes "NotUtf8" ∷ []
script_words UnknownWord = codes "UnknownWord" ∷ []
script_words BadNumber = codes "BadNumber" ∷ []
script_words BadHex = codes "BadHex" ∷ []
script_words Extra = codes "Extra" ∷ []
script_words Missing = codes "Missing" ∷ []
script_words (Setting fault) = codes "Setting" ∷ setting_words fault
script_words NoGo = codes "NoGo" ∷ []
script_words InputTooLong = codes "InputTooLong" ∷ []

-- why the world refuses an event
abbrev pub world_words : WorldFault → List (List ℕ)
world_words NoSuchHost = codes "NoSuchHost" ∷ []
world_words NoSuchPacket = codes "NoSuchPacket" ∷ []
world_words (Late sent now) = codes "Late" ∷ decimal sent ∷ decimal now ∷ []
world_words (Start fault) = codes "Start" ∷ start_word fault ∷ []
world_words NoSpare = codes "NoSpare" ∷ []
world_words ClockEnd = codes "ClockEnd" ∷ []
world_words Decodes = codes "Decodes" ∷ []
world_words NoMemory = codes "NoMemory" ∷ []
world_words (OutOfBand n most) = codes "OutOfBand" ∷ decimal n ∷ decimal most ∷ []
world_words (Back last now) = codes "Back" ∷ decimal last ∷ decimal now ∷ []

-- why a line is refused: by itself, or by the world
abbrev pub fault_words : LineFault → List (List ℕ)
fault_words (Script fault) = script_words fault
fault_words (World fault) = world_words fault

-- why a call failed
abbrev pub why_word : Why → List ℕ
why_word Timeout = codes "timeout"
why_word Forgotten = codes "forgotten"

-- the words of an entry
abbrev pub entry_words : PlainEntry → List (List ℕ)
entry_words (PlainSettings settings) = settings_words settings
entry_words (PlainCall id server service bytes) = codes "call" ∷ id_word id ∷ host_word server ∷ decimal service ∷ hex_word bytes ∷ []
entry_words (PlainDeliver packet) = codes "deliver" ∷ decimal packet ∷ []
entry_words (PlainClock tick) = codes "clock" ∷ decimal tick ∷ []
entry_words (PlainRestart host inc) = codes "restart" ∷ host_word host ∷ decimal inc ∷ []
entry_words (PlainInject host bytes) = codes "inject" ∷ host_word host ∷ hex_word bytes ∷ []
entry_words (PlainShift host n) = codes "shift" ∷ host_word host ∷ decimal n ∷ []
entry_words (PlainJunk host) = codes "junk" ∷ host_word host ∷ []
entry_words (PlainStale host at now) = codes "stale" ∷ host_word host ∷ decimal at ∷ decimal now ∷ []
entry_words (PlainSend number from to inc role id level body payload) =
    codes "send" ∷ decimal number ∷ route_word from to ∷ decimal inc ∷ kind_word body ∷ role_word role ∷ id_word id ∷ body_words level body payload
entry_words (PlainRun host id service request response hold) =
    codes "run" ∷ host_word host ∷ id_word id ∷ decimal service ∷ hex_word request ∷ hex_word response ∷ decimal hold ∷ []
entry_words (PlainDone id bytes) = codes "done" ∷ id_word id ∷ hex_word bytes ∷ []
entry_words (PlainFail id why) = codes "fail" ∷ id_word id ∷ why_word why ∷ []
entry_words (PlainDrop host id) = codes "drop" ∷ host_word host ∷ id_word id ∷ []
entry_words (PlainGaps host id) = codes "gaps" ∷ host_word host ∷ id_word id ∷ []
entry_words (PlainBury host id until) = codes "bury" ∷ host_word host ∷ id_word id ∷ decimal until ∷ []
entry_words (PlainFree host id) = codes "free" ∷ host_word host ∷ id_word id ∷ []
entry_words (PlainFullRows host id rows limit) = codes "full" ∷ host_word host ∷ id_word id ∷ codes "rows" ∷ decimal rows ∷ decimal limit ∷ []
entry_words (PlainFullPages host id need free) = codes "full" ∷ host_word host ∷ id_word id ∷ codes "pages" ∷ decimal need ∷ decimal free ∷ []
entry_words (PlainBalance host cutoffs) = codes "balance" ∷ host_word host ∷ cutoffs_words cutoffs
entry_words (PlainRecv host from bytes) = codes "recv" ∷ host_word host ∷ host_word from ∷ hex_word bytes ∷ []
entry_words (PlainFinished n) = codes "ok" ∷ decimal n ∷ []
entry_words (PlainRefused line fault) = codes "refused" ∷ decimal line ∷ fault_words fault
entry_words (PlainStalled turns now) = codes "stalled" ∷ decimal turns ∷ decimal now ∷ []

-- the line of an entry, with its line feed
unfoldable pub line_text : PlainEntry → List ℕ
line_text entry = line_of_words (entry_words entry)
