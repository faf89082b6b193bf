-- The grammar of a schedule: what a line stands for, by its words, or why it is refused.
use Rattle.std.specs.Prelude.{ℕ, zero, suc, ◌+◌, ◌-◌, ◌^◌, ◌%◌, ◌==◌, nat_lt, nat_le, Bool, true, false, not, if◌then◌else◌, Option, None, Some}
use Rattle.std.specs.Prelude.{Result, Ok, Err, List, [], ◌∷◌, codes, length, take, ◌++◌}
use Rattle.std.specs.Str.{bytes_eq, is_utf8}
use Rattle.std.specs.List.{flat_map, zip}
use Rattle.std.specs.Fmt.{decimal}
use Rattle.hex.specs.Hex.{decode_of}
use Rattle.hex.specs.declared.error.FromHexError.{FromHexError}
use Rattle.homa_plain.specs.declared.id.HostId.{HostId}
use Rattle.homa_plain.specs.declared.event.Event.{Event}
use Rattle.homa_plain.specs.declared.event.Event.TheVariants.{Call, Deliver, Clock, Turn, Restart, Inject, Shift}
use Rattle.homa_plain.specs.declared.fault.ScriptFault.{ScriptFault}
use Rattle.homa_plain.specs.declared.fault.ScriptFault.TheVariants.{LongLine, NotUtf8, UnknownWord, BadNumber, BadHex, Extra, Missing, Setting, NoGo}
use Rattle.homa_plain.specs.declared.fault.ScriptFault.TheVariants.{InputTooLong}
use Rattle.homa_plain.specs.declared.settings.Settings.{Settings}
use Rattle.homa_plain.specs.declared.settings.Name.{Name}
use Rattle.homa_plain.specs.declared.settings.Name.TheVariants.{Hosts, Seg, Window, Unsched, Overcommit, Rate, Resend, Tries, Life, Pages, Calls}
use Rattle.homa_plain.specs.declared.settings.Name.TheVariants.{Served, Rebalance, Skew, Wire}
use Rattle.homa_plain.specs.Settings.{verdict, usual}
use Rattle.homa_plain.specs.Numbers.{number_of}
use Rattle.homa_plain.specs.Input.{lines_of, without_feed, words_of}
use Rattle.homa_plain.specs.Text.{name_word, line_of_words, host_word, hex_word, settings_numbers, told_numbers}
use Rattle.homa_plain.specs.Limits.{longest_input}

-- ---- operands

-- the next reader, if a value was read; otherwise the fault
infixl 10 ◌>>=◌
abbrev pub ◌>>=◌ : {A B : Type 0} → Result A ScriptFault → (A → Result B ScriptFault) → Result B ScriptFault
(Err fault) >>= f = Err fault
(Ok x) >>= f = f x

-- a number that was read, if it is at most so much; otherwise the fault
abbrev pub number_up_to : ℕ → Option ℕ → Result ℕ ScriptFault
number_up_to most None = Err BadNumber
number_up_to most (Some n) = if nat_le n most then Ok n else Err BadNumber

-- the first of the words, read by a reader of one word, and the words after it
abbrev pub first_word : {A : Type 0} → (List ℕ → Result A ScriptFault) → List (List ℕ) → Result (A × List (List ℕ)) ScriptFault
first_word read [] = Err Missing
first_word read (word ∷ words) = read word >>= λ x. Ok (x, words)

-- a number that is at most so much
abbrev pub number_at_most : ℕ → List (List ℕ) → Result (ℕ × List (List ℕ)) ScriptFault
number_at_most most words = first_word (λ word. number_up_to most (number_of word)) words

-- a host's number: at most 65,535; that there is such a host is for the world to say
abbrev pub host_operand : List (List ℕ) → Result (HostId × List (List ℕ)) ScriptFault
host_operand words = number_at_most 65535 words >>= λ n. Ok (record { 0 = n.0 }, n.1)

-- n bytes from byte number i on, of which each has its number's remainder by 256 as its value
abbrev pub counting : ℕ → ℕ → List ℕ
counting i zero = []
counting i (suc n) = i % 256 ∷ counting (suc i) n

-- the most bytes that `*` may ask for: one more than a message may have
abbrev pub most_counted : ℕ
most_counted = 1000001

-- so many counting bytes, where the number was read
abbrev pub counted : Result ℕ ScriptFault → Result (List ℕ) ScriptFault
counted n = n >>= λ m. Ok (counting 0 m)

-- bytes that were read from hex digits, or the fault
abbrev pub hex_bytes : Result (List ℕ) FromHexError → Result (List ℕ) ScriptFault
hex_bytes (Ok bytes) = Ok bytes
hex_bytes (Err fault) = Err BadHex

-- the bytes of a word: none for `-`, so many counting bytes for `*` and a number, otherwise pairs of hex digits
unfoldable pub bytes_of_word : List ℕ → Result (List ℕ) ScriptFault
bytes_of_word [] = Ok []
bytes_of_word (c ∷ cs) =
    if c == 42 then counted (number_up_to most_counted (number_of cs))
    else if bytes_eq (c ∷ cs) (codes "-") then Ok []
    else hex_bytes (decode_of (c ∷ cs))

-- the bytes that the first word spells, and the words after it
abbrev pub bytes_operand : List (List ℕ) → Result (List ℕ × List (List ℕ)) ScriptFault
bytes_operand words = first_word bytes_of_word words

-- a value with no word after it
abbrev pub alone : {A : Type 0} → A × List (List ℕ) → Result A ScriptFault
alone (x, []) = Ok x
alone (x, word ∷ words) = Err Extra

-- ---- lines

-- an event with its bytes, or so many ticks
pub data Given : Type 0 where
  GivenEvent : (event : Event) (bytes : List ℕ) → Given
  GivenTicks : (n : ℕ) → Given

-- what a line stands for
pub data Phrase : Type 0 where
  Blank : Phrase
  SettingIs : (name : Name) (n : ℕ) → Phrase
  Go : Phrase
  Happens : (given : Given) → Phrase

-- the names of the settings
abbrev pub names : List Name
names = Hosts ∷ Seg ∷ Window ∷ Unsched ∷ Overcommit ∷ Rate ∷ Resend ∷ Tries ∷ Life ∷ Pages ∷ Calls ∷ Served ∷ Rebalance ∷ Skew ∷ Wire ∷ []

-- the setting that a word names
abbrev pub name_in : List Name → List ℕ → Option Name
name_in [] word = None
name_in (name ∷ rest) word = if bytes_eq word (name_word name) then Some name else name_in rest word

-- the events' words
pub data EventWord : Type 0 where
  CallWord : EventWord
  DeliverWord : EventWord
  ClockWord : EventWord
  TurnWord : EventWord
  TickWord : EventWord
  RestartWord : EventWord
  InjectWord : EventWord
  ShiftWord : EventWord

-- the event that a word names, if it names one
abbrev pub event_word : List ℕ → Option EventWord
event_word word =
    if bytes_eq word (codes "call") then Some CallWord
    else if bytes_eq word (codes "deliver") then Some DeliverWord
    else if bytes_eq word (codes "clock") then Some ClockWord
    else if bytes_eq word (codes "turn") then Some TurnWord
    else if bytes_eq word (codes "tick") then Some TickWord
    else if bytes_eq word (codes "restart") then Some RestartWord
    else if bytes_eq word (codes "inject") then Some InjectWord
    else if bytes_eq word (codes "shift") then Some ShiftWord
    else None

-- `call CLIENT SERVER NUMBER BYTES`
abbrev pub call_given : List (List ℕ) → Result Given ScriptFault
call_given words = do
  client ← host_operand words
  server ← host_operand client.1
  number ← number_at_most 255 server.1
  bytes ← bytes_operand number.1
  alone (GivenEvent (Call client.0 server.0 number.0) bytes.0, bytes.1)

-- `deliver PACKET`
abbrev pub deliver_given : List (List ℕ) → Result Given ScriptFault
deliver_given words = do
  packet ← number_at_most (2 ^ 64 - 1) words
  alone (GivenEvent (Deliver packet.0) [], packet.1)

-- an event of one host: `turn HOST`, `restart HOST`
abbrev pub host_given : (HostId → Event) → List (List ℕ) → Result Given ScriptFault
host_given event words = do
  host ← host_operand words
  alone (GivenEvent (event host.0) [], host.1)

-- `tick` or `tick N`: once, or 1 to 100,000 times
abbrev pub tick_given : List (List ℕ) → Result Given ScriptFault
tick_given [] = Ok (GivenTicks 1)
tick_given (word ∷ words) = do
  n ← number_at_most 100000 (word ∷ words)
  if n.0 == 0 then Err BadNumber else alone (GivenTicks n.0, n.1)

-- `inject HOST BYTES`
abbrev pub inject_given : List (List ℕ) → Result Given ScriptFault
inject_given words = do
  host ← host_operand words
  bytes ← bytes_operand host.1
  alone (GivenEvent (Inject host.0) bytes.0, bytes.1)

-- `shift HOST N`
abbrev pub shift_given : List (List ℕ) → Result Given ScriptFault
shift_given words = do
  host ← host_operand words
  n ← number_at_most (2 ^ 32 - 1) host.1
  alone (GivenEvent (Shift host.0 n.0) [], n.1)

-- what follows an event's word
abbrev pub event_given : EventWord → List (List ℕ) → Result Given ScriptFault
event_given CallWord words = call_given words
event_given DeliverWord words = deliver_given words
event_given ClockWord words = alone (GivenEvent Clock [], words)
event_given TurnWord words = host_given Turn words
event_given TickWord words = tick_given words
event_given RestartWord words = host_given Restart words
event_given InjectWord words = inject_given words
event_given ShiftWord words = shift_given words

-- a setting's number
abbrev pub setting_given : Name → List (List ℕ) → Result Phrase ScriptFault
setting_given name words = do
  n ← number_at_most (2 ^ 32 - 1) words
  alone (SettingIs name n.0, n.1)

-- a line after `go`
abbrev pub phrase_after_go : Option EventWord → List (List ℕ) → Result Phrase ScriptFault
phrase_after_go (Some word) words = event_given word words >>= λ given. Ok (Happens given)
phrase_after_go None words = Err UnknownWord

-- a line before `go`
abbrev pub phrase_before_go : Option Name → Option EventWord → Bool → List (List ℕ) → Result Phrase ScriptFault
phrase_before_go (Some name) event is_go words = setting_given name words
phrase_before_go None (Some word) is_go words = Err NoGo
phrase_before_go None None true words = alone (Go, words)
phrase_before_go None None false words = Err UnknownWord

-- whether a word begins a comment: its first byte is `#`
abbrev pub is_comment : List ℕ → Bool
is_comment [] = false
is_comment (c ∷ cs) = c == 35

-- what words stand for, before `go` or after it; no words, or those of a comment, stand for nothing
abbrev pub phrase_of : Bool → List (List ℕ) → Result Phrase ScriptFault
phrase_of gone [] = Ok Blank
phrase_of gone (word ∷ words) =
    if is_comment word then Ok Blank
    else if gone then phrase_after_go (event_word word) words
    else phrase_before_go (name_in names word) (event_word word) (bytes_eq word (codes "go")) words

-- a line without the one carriage return at its end
abbrev pub without_return : List ℕ → List ℕ
without_return [] = []
without_return (c ∷ []) = if c == 13 then [] else c ∷ []
without_return (c ∷ d ∷ cs) = c ∷ without_return (d ∷ cs)

-- the most bytes of a line, its line feed not counted
abbrev pub longest_line : ℕ
longest_line = 2100000

-- the most bytes of an input
abbrev pub most_bytes : ℕ
most_bytes = longest_input

-- what a line stands for in an input of at most so many bytes, of which `read` come before the line
unfoldable pub phrase_in : ℕ → Bool → ℕ → List ℕ → Result Phrase ScriptFault
phrase_in limit gone read line =
    if nat_lt limit (read + length line) then Err InputTooLong
    else if nat_lt longest_line (length (without_feed line)) then Err LongLine
    else if not (is_utf8 (without_feed line)) then Err NotUtf8
    else phrase_of gone (words_of (without_return (without_feed line)))

-- ---- schedules

-- the settings with another number
abbrev pub with_setting : Settings → Name → ℕ → Settings
with_setting s Hosts n = record s { hosts = n }
with_setting s Seg n = record s { seg = n }
with_setting s Window n = record s { window = n }
with_setting s Unsched n = record s { unsched = n }
with_setting s Overcommit n = record s { overcommit = n }
with_setting s Rate n = record s { rate = n }
with_setting s Resend n = record s { resend = n }
with_setting s Tries n = record s { tries = n }
with_setting s Life n = record s { life = n }
with_setting s Pages n = record s { pages = n }
with_setting s Calls n = record s { calls = n }
with_setting s Served n = record s { served = n }
with_setting s Rebalance n = record s { rebalance = n }
with_setting s Skew n = record s { skew = n }
with_setting s Wire n = record s { wire = n }

-- a line that is refused, by its number from 1
pub record Refusal : Type 0 where
  pub line : ℕ
  pub fault : ScriptFault

-- what happens, with the number of its line
pub record Step : Type 0 where
  pub line : ℕ
  pub given : Given

-- what an input says after `go`, up to its end or to the first line that its words refuse
pub record Steps : Type 0 where
  pub steps : List Step
  pub refused : Option Refusal

-- the lines from line n on, before which the input has `read` bytes
unfoldable pub steps_from : ℕ → ℕ → ℕ → List (List ℕ) → Steps
steps_from limit read n [] = record { steps = []; refused = None }
steps_from limit read n (line ∷ lines) =
    let rest = steps_from limit (read + length line) (suc n) lines in
    elim (phrase_in limit true read line) [
      | Err fault ↦ record { steps = []; refused = Some (record { line = n; fault = fault }) }
      | Ok phrase ↦ elim phrase [
        | Blank ↦ rest
        | SettingIs name m ↦ rest
        | Go ↦ rest
        | Happens given ↦ record { steps = record { line = n; given = given } ∷ rest.steps; refused = rest.refused }
      ]
    ]

-- the lines up to `go`: the settings that hold there, and what follows; or the first refusal
pub data Opening : Type 0 where
  Opened : (settings : Settings) (steps : Steps) → Opening
  Unopened : (refusal : Refusal) → Opening

-- at `go`, in line n, the settings must be valid
abbrev pub opened_by : Settings → ℕ → Steps → Opening
opened_by s n steps = elim (verdict s) [
  | Err fault ↦ Unopened (record { line = n; fault = Setting fault })
  | Ok u ↦ Opened s steps
]

-- the lines from line n on, if these settings hold so far; without `go` the line after the last one is refused
unfoldable pub opening_from : ℕ → ℕ → ℕ → Settings → List (List ℕ) → Opening
opening_from limit read n s [] = Unopened (record { line = n; fault = NoGo })
opening_from limit read n s (line ∷ lines) =
    elim (phrase_in limit false read line) [
      | Err fault ↦ Unopened (record { line = n; fault = fault })
      | Ok phrase ↦ elim phrase [
        | Blank ↦ opening_from limit (read + length line) (suc n) s lines
        | SettingIs name m ↦ opening_from limit (read + length line) (suc n) (with_setting s name m) lines
        | Go ↦ opened_by s n (steps_from limit (read + length line) (suc n) lines)
        | Happens given ↦ opening_from limit (read + length line) (suc n) s lines
      ]
    ]

-- a schedule of at most so many bytes, without what a world would say to it
unfoldable pub opening : ℕ → List ℕ → Opening
opening limit bytes = opening_from limit 0 1 usual (lines_of bytes)

-- ---- schedules that are printed

-- the words of an event with its bytes
abbrev pub event_words : Event → List ℕ → List (List ℕ)
event_words (Call client server number) bytes = codes "call" ∷ host_word client ∷ host_word server ∷ decimal number ∷ hex_word bytes ∷ []
event_words (Deliver packet) bytes = codes "deliver" ∷ decimal packet ∷ []
event_words Clock bytes = codes "clock" ∷ []
event_words (Turn host) bytes = codes "turn" ∷ host_word host ∷ []
event_words (Restart host) bytes = codes "restart" ∷ host_word host ∷ []
event_words (Inject host) bytes = codes "inject" ∷ host_word host ∷ hex_word bytes ∷ []
event_words (Shift host n) bytes = codes "shift" ∷ host_word host ∷ decimal n ∷ []

-- the line of an event, with its line feed
unfoldable pub event_text : Event → List ℕ → List ℕ
event_text event bytes = line_of_words (event_words event bytes)

-- the most bytes of an event
abbrev pub most_beside : Event → ℕ
most_beside (Call client server number) = most_counted
most_beside (Deliver packet) = 0
most_beside Clock = 0
most_beside (Turn host) = 0
most_beside (Restart host) = 0
most_beside (Inject host) = most_counted
most_beside (Shift host n) = 0

-- the line of a setting
abbrev pub setting_text : Name × ℕ → List ℕ
setting_text setting = line_of_words (name_word setting.0 ∷ decimal setting.1 ∷ [])

-- the lines of the settings whose numbers the `settings` line of a trace has, and `go`
unfoldable pub settings_text : Settings → List ℕ
settings_text s = flat_map setting_text (take (told_numbers s) (zip names (settings_numbers s))) ++ codes "go\n"
