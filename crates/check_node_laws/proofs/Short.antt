-- No line of a node's trace is too long.
use Rattle.std.proofs.Common.{◌≤◌, ◌<◌, ◌^◌, ℕ, zero, suc, ◌*◌, Option, None, Some, List, [], ◌∷◌, ◌++◌, length, arith}
use Rattle.std.specs.Prelude.{map, take, codes}
use Rattle.std.specs.List.{AllByRecursion, join_with_byte}
use Rattle.std.specs.Option.{IfSome}
use Rattle.std.specs.Fmt.{decimal}
use Rattle.std.proofs.lemmas.Fmt.{length-decimal-le}
use Rattle.std.proofs.lemmas.List.{length-append}
use Rattle.homa_plain.specs.declared.id.CallId.{CallId}
use Rattle.homa_plain.specs.declared.id.HostId.{HostId}
use Rattle.homa_plain.specs.declared.packet.Body.{Body}
use Rattle.homa_plain.specs.declared.packet.Body.TheVariants as body
use Rattle.homa_plain.specs.declared.packet.Role.{Role}
use Rattle.homa_plain.specs.declared.packet.Role.TheVariants.{Client, Server}
use Rattle.homa_plain.specs.declared.entry.Why.{Why}
use Rattle.homa_plain.specs.declared.entry.Why.TheVariants.{Timeout, Forgotten}
use Rattle.homa_plain.specs.declared.settings.Name.{Name}
use Rattle.homa_plain.specs.declared.settings.Name.TheVariants as name
use Rattle.homa_plain.specs.declared.settings.SettingFault.{SettingFault}
use Rattle.homa_plain.specs.declared.settings.SettingFault.TheVariants.{OutOfRange, UnschedOverWindow, RateUnderSeg}
use Rattle.homa_plain.specs.declared.fault.StartFault.{StartFault}
use Rattle.homa_plain.specs.declared.fault.StartFault.TheVariants.{Empty, TooLong, SelfCall, CallsFull, SeqSpent}
use Rattle.homa_plain.specs.declared.fault.WorldFault.{WorldFault}
use Rattle.homa_plain.specs.declared.fault.WorldFault.TheVariants.{NoSuchHost, NoSuchPacket, Late, Start, NoSpare, ClockEnd, Decodes, NoMemory, OutOfBand, Back}
use Rattle.homa_plain.specs.declared.fault.ScriptFault.{ScriptFault}
use Rattle.homa_plain.specs.declared.fault.ScriptFault.TheVariants.{LongLine, NotUtf8, UnknownWord, BadNumber, BadHex, Extra, Missing, Setting, NoGo}
use Rattle.homa_plain.specs.declared.fault.ScriptFault.TheVariants.{InputTooLong}
use Rattle.homa_plain.specs.declared.fault.LineFault.{LineFault}
use Rattle.homa_plain.specs.declared.fault.LineFault.TheVariants.{Script, World}
use Rattle.homa_plain.specs.Entries.{PlainEntry, PlainSettings, PlainCall, PlainDeliver, PlainClock, PlainRestart, PlainInject, PlainShift, PlainFinished}
use Rattle.homa_plain.specs.Entries.{PlainRefused, PlainStalled, PlainJunk, PlainStale, PlainSend, PlainRun, PlainDone, PlainFail, PlainDrop, PlainGaps}
use Rattle.homa_plain.specs.Entries.{PlainBury, PlainFree, PlainFullRows, PlainFullPages, PlainBalance, PlainRecv}
use Rattle.homa_plain.specs.Text.{host_word, call_word, id_word, route_word, role_word, ack_word, kind_word, body_words, settings_numbers, told_numbers}
use Rattle.homa_plain.specs.Text.{entry_words, line_text, why_word, name_word, setting_words, script_words, start_word, world_words, fault_words}
use Rattle.homa_script.proofs.Hexes.{length-hex}
use Rattle.homa_script.proofs.Printed.{total}
use Rattle.check_reader.specs.Told.{FitsHost, FitsCall, FitsId, FitsBody, FitsWorldFault, FitsFault, Fits}

-- how many bytes the messages of a line have
abbrev pub AreShort : PlainEntry → Type 0
AreShort (PlainCall id server service bytes) = length bytes ≤ 1000000
AreShort (PlainRecv host from bytes) = length bytes ≤ 1500
AreShort (PlainSend number from to inc role id level what payload) = length payload ≤ 1400
AreShort (PlainRun host id service request response hold) = (length request ≤ 1000000) × (length response ≤ 1000000)
AreShort (PlainDone id bytes) = length bytes ≤ 1000000
AreShort line = Unit {0}

-- ---- words

-- words one behind the other, with one byte between two
length-join : (words : List (List ℕ)) → length (join_with_byte 32 words) ≤ total words
length-join [] = omega arith
length-join (word ∷ []) = omega arith
length-join (word ∷ next ∷ words) = omega (arith, length-append word (32 ∷ join_with_byte 32 (next ∷ words)), length-join (next ∷ words))

number_short : (n : ℕ) → n < 2 ^ 64 → length (decimal n) ≤ 20
number_short n h = length-decimal-le 20 n (omega arith) (omega (arith, h)) h

host_short : (host : HostId) → FitsHost host → length (host_word host) ≤ 20
host_short host h = number_short host.0 (omega (arith, h))

call_short : (call : ℕ × ℕ) → FitsCall call → length (call_word call) ≤ 50
call_short call h =
    let a = length-append (decimal call.0 ++ codes ".") (decimal call.1) in
    let b = length-append (decimal call.0) (codes ".") in
    omega (arith, a, b, number_short call.0 (omega (arith, h.0)), number_short call.1 (omega (arith, h.1)))

id_short : (id : CallId) → FitsId id → length (id_word id) ≤ 80
id_short id h =
    let a = length-append (host_word id.client ++ codes ".") (call_word (id.inc, id.seq)) in
    let b = length-append (host_word id.client) (codes ".") in
    omega (arith, a, b, host_short id.client h.0, call_short (id.inc, id.seq) h.1)

route_short : (from to : HostId) → FitsHost from → FitsHost to → length (route_word from to) ≤ 50
route_short from to x y =
    let a = length-append (host_word from ++ codes ">") (host_word to) in
    let b = length-append (host_word from) (codes ">") in
    omega (arith, a, b, host_short from x, host_short to y)

role_short : (role : Role) → length (role_word role) ≤ 1
role_short Client = omega arith
role_short Server = omega arith

why_short : (why : Why) → length (why_word why) ≤ 9
why_short Timeout = omega arith
why_short Forgotten = omega arith

kind_short : (what : Body) → length (kind_word what) ≤ 8
kind_short (body.Data size offset version service ack) = omega arith
kind_short (body.Grant offset prio) = omega arith
kind_short (body.Resend from to prio) = omega arith
kind_short body.Busy = omega arith
kind_short (body.Cutoffs c) = omega arith
kind_short (body.Unknown reason) = omega arith
kind_short body.NeedAck = omega arith
kind_short (body.Ack more) = omega arith

-- ---- words of lines

numbers_short : (n : ℕ) (ns : List ℕ) → AllByRecursion (λ m. m < 2 ^ 32) ns → total (map decimal (take n ns)) ≤ 21 * length ns
numbers_short zero ns all = omega arith
numbers_short (suc n) [] all = omega arith
numbers_short (suc n) (m ∷ ns) all = omega (arith, number_short m (omega (arith, all.0)), numbers_short n ns all.1)

bounds_short : (ns : List ℕ) → AllByRecursion (λ m. m < 2 ^ 32) ns → total (map decimal ns) ≤ 21 * length ns
bounds_short [] all = omega arith
bounds_short (m ∷ ns) all = omega (arith, number_short m (omega (arith, all.0)), bounds_short ns all.1)

calls_short : (calls : List (ℕ × ℕ)) → AllByRecursion FitsCall calls → total (map call_word calls) ≤ 51 * length calls
calls_short [] all = omega arith
calls_short (c ∷ calls) all = omega (arith, call_short c all.0, calls_short calls all.1)

ack_short : (o : Option (ℕ × ℕ)) → IfSome o FitsCall → length (ack_word o) ≤ 50
ack_short None fits = omega arith
ack_short (Some c) fits = call_short c fits

body_short : (level : ℕ) (what : Body) (payload : List ℕ) → level < 2 ^ 8 → FitsBody what → length payload ≤ 1400 → total (body_words level what payload) ≤ 4000
body_short level (body.Data size offset version service ack) payload l f p =
    omega (
      arith,
      number_short level (omega (arith, l)),
      number_short size (omega (arith, f.0)),
      number_short offset
          (omega (arith, f.1)),
      number_short version (omega (arith, f.2)),
      number_short service (omega (arith, f.3)),
      ack_short ack f.4,
      length-hex payload,
      p,
    )
body_short level (body.Grant offset prio) payload l f p = omega (arith, number_short offset (omega (arith, f.0)), number_short prio (omega (arith, f.1)))
body_short level (body.Resend from to prio) payload l f p =
    omega (arith, number_short from (omega (arith, f.0)), number_short to (omega (arith, f.1)), number_short prio (omega (arith, f.2)))
body_short level body.Busy payload l f p = omega arith
body_short level (body.Cutoffs c) payload l f p = omega (arith, number_short c.version (omega (arith, f.0)), bounds_short c.upto f.2, f.1)
body_short level (body.Unknown reason) payload l f p = omega (arith, number_short reason (omega (arith, f)))
body_short level body.NeedAck payload l f p = omega arith
body_short level (body.Ack more) payload l f p = omega (arith, calls_short more f.1, f.0)

-- why a line is refused
name_short : (name : Name) → length (name_word name) ≤ 10
name_short name.Hosts = omega arith
name_short name.Seg = omega arith
name_short name.Window = omega arith
name_short name.Unsched = omega arith
name_short name.Overcommit = omega arith
name_short name.Rate = omega arith
name_short name.Resend = omega arith
name_short name.Tries = omega arith
name_short name.Life = omega arith
name_short name.Pages = omega arith
name_short name.Calls = omega arith
name_short name.Served = omega arith
name_short name.Rebalance = omega arith
name_short name.Skew = omega arith
name_short name.Wire = omega arith

setting_short : (fault : SettingFault) → total (setting_words fault) ≤ 100
setting_short (OutOfRange name) = omega (arith, name_short name)
setting_short UnschedOverWindow = omega arith
setting_short RateUnderSeg = omega arith

script_short : (fault : ScriptFault) → total (script_words fault) ≤ 200
script_short LongLine = omega arith
script_short NotUtf8 = omega arith
script_short UnknownWord = omega arith
script_short BadNumber = omega arith
script_short BadHex = omega arith
script_short Extra = omega arith
script_short Missing = omega arith
script_short (Setting fault) = omega (arith, setting_short fault)
script_short NoGo = omega arith
script_short InputTooLong = omega arith

start_short : (fault : StartFault) → length (start_word fault) ≤ 10
start_short Empty = omega arith
start_short TooLong = omega arith
start_short SelfCall = omega arith
start_short CallsFull = omega arith
start_short SeqSpent = omega arith

world_short : (fault : WorldFault) → FitsWorldFault fault → total (world_words fault) ≤ 200
world_short NoSuchHost f = omega arith
world_short NoSuchPacket f = omega arith
world_short (Late sent now) f = omega (arith, number_short sent f.0, number_short now f.1)
world_short (Start fault) f = omega (arith, start_short fault)
world_short NoSpare f = omega arith
world_short ClockEnd f = omega arith
world_short Decodes f = omega arith
world_short NoMemory f = absurd f
world_short (OutOfBand n most) f = omega (arith, number_short n (omega (arith, f.0)), number_short most (omega (arith, f.1)))
world_short (Back last now) f = omega (arith, number_short last f.0, number_short now f.1)

fault_short : (fault : LineFault) → FitsFault fault → total (fault_words fault) ≤ 200
fault_short (Script fault) f = script_short fault
fault_short (World fault) f = world_short fault f

-- a line that a node's trace may have
abbrev pub IsOfNode : PlainEntry → Type 0
IsOfNode (PlainDeliver packet) = ⊥
IsOfNode (PlainRestart host inc) = ⊥
IsOfNode (PlainInject host bytes) = ⊥
IsOfNode (PlainShift host n) = ⊥
IsOfNode line = Unit {0}

-- the words of a line of a node's trace
words_short : (line : PlainEntry) → Fits line → AreShort line → IsOfNode line → total (entry_words line) ≤ 4001000
words_short (PlainSettings s) f l o = omega (arith, numbers_short (told_numbers s) (settings_numbers s) f)
words_short (PlainCall id server service bytes) f l o =
    omega (arith, id_short id f.0, host_short server f.1, number_short service (omega (arith, f.2)), length-hex bytes, l)
words_short (PlainClock now) f l o = omega (arith, number_short now f)
words_short (PlainRecv host from bytes) f l o = omega (arith, host_short host f.0, host_short from f.1, length-hex bytes, l)
words_short (PlainSend number from to inc role id level what payload) f l o =
    omega (
      arith,
      number_short number f.0,
      route_short from to f.1.0 f.1.1,
      number_short inc
          (omega (arith, f.2)),
      kind_short what,
      role_short role,
      id_short id f.3,
      body_short level what payload f.4 f.5 l,
    )
words_short (PlainRun host id service request response hold) f l o =
    omega (
      arith,
      host_short host f.0,
      id_short id f.1,
      number_short service
          (omega (arith, f.2)),
      length-hex request,
      l.0,
      length-hex response,
      l.1,
      number_short hold (omega (arith, f.5)),
    )
words_short (PlainDone id bytes) f l o = omega (arith, id_short id f.0, length-hex bytes, l)
words_short (PlainFail id why) f l o = omega (arith, id_short id f, why_short why)
words_short (PlainDrop host id) f l o = omega (arith, host_short host f.0, id_short id f.1)
words_short (PlainGaps host id) f l o = omega (arith, host_short host f.0, id_short id f.1)
words_short (PlainBury host id until) f l o = omega (arith, host_short host f.0, id_short id f.1, number_short until f.2)
words_short (PlainFree host id) f l o = omega (arith, host_short host f.0, id_short id f.1)
words_short (PlainFullRows host id rows limit) f l o =
    omega (arith, host_short host f.0, id_short id f.1, number_short rows (omega (arith, f.2)), number_short limit (omega (arith, f.3)))
words_short (PlainFullPages host id need free) f l o =
    omega (arith, host_short host f.0, id_short id f.1, number_short need (omega (arith, f.2)), number_short free (omega (arith, f.3)))
words_short (PlainBalance host c) f l o = omega (arith, host_short host f.0, number_short c.version (omega (arith, f.1.0)), bounds_short c.upto f.1.2, f.1.1)
words_short (PlainJunk host) f l o = omega (arith, host_short host f)
words_short (PlainStale host at now) f l o = omega (arith, host_short host f.0, number_short at f.1, number_short now f.2)
words_short (PlainFinished n) f l o = omega (arith, number_short n f)
words_short (PlainStalled turns now) f l o = omega (arith, number_short turns f.0, number_short now f.1)
words_short (PlainRefused line fault) f l o = omega (arith, number_short line f.0, fault_short fault f.1)
words_short line f l o = absurd o

pub line_short : (line : PlainEntry) → Fits line → AreShort line → IsOfNode line → length (line_text line) ≤ 4100001
unfolding line_text
line_short line f l o =
    let words = entry_words line in
    omega (arith, length-append (join_with_byte 32 words) (10 ∷ []), length-join words, words_short line f l o)
