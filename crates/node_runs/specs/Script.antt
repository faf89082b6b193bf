-- The grammar of a node script: where its hosts are, when it ends, and the calls that are to be made; or why a line is refused.
use Rattle.std.specs.Prelude.{ℕ, zero, suc, ◌+◌, ◌-◌, ◌^◌, ◌==◌, ◌&&◌, nat_lt, Bool, true, false, not, is_some, if◌then◌else◌, Option, None, Some}
use Rattle.std.specs.Prelude.{Result, Ok, Err, List, [], ◌∷◌, ◌++◌, codes, length, map, filter, slice_get}
use Rattle.std.specs.Str.{bytes_eq, is_utf8}
use Rattle.homa_plain.specs.declared.id.HostId.{HostId}
use Rattle.homa_plain.specs.declared.fault.ScriptFault.{ScriptFault}
use Rattle.homa_plain.specs.declared.fault.ScriptFault.TheVariants.{LongLine, NotUtf8, UnknownWord, BadNumber, Missing, Setting, NoGo, InputTooLong}
use Rattle.homa_plain.specs.declared.fault.LineFault.{LineFault}
use Rattle.homa_plain.specs.declared.fault.LineFault.TheVariants.{Script as ByWords, World as ByWorld}
use Rattle.homa_plain.specs.declared.fault.WorldFault.TheVariants.{NoSuchHost}
use Rattle.homa_plain.specs.declared.settings.Settings.{Settings}
use Rattle.homa_plain.specs.declared.settings.Name.{Name}
use Rattle.homa_plain.specs.Settings.{verdict, usual}
use Rattle.homa_plain.specs.Input.{lines_of, without_feed, words_of}
use Rattle.homa_plain.specs.Script.{◌>>=◌, first_word, number_at_most, host_operand, bytes_operand, alone, names, name_in, is_comment, without_return}
use Rattle.homa_plain.specs.Script.{longest_line, with_setting}

-- where a host is: in this node and in which incarnation, or in another process; and its port
pub data Place : Type 0 where
  Local : (inc port : ℕ) → Place
  Remote : (port : ℕ) → Place

-- a host that a line names
pub record Naming : Type 0 where
  pub host : HostId
  pub place : Place

-- ---- lines

-- what a line before `go` stands for
pub data Heading : Type 0 where
  Blank : Heading
  SettingIs : (name : Name) (n : ℕ) → Heading
  Names : (naming : Naming) → Heading
  EndIs : (tick : ℕ) → Heading
  TurnsAre : (n : ℕ) → Heading
  Go : Heading

-- a number that is at least and at most so much
abbrev pub number_between : ℕ → ℕ → List (List ℕ) → Result (ℕ × List (List ℕ)) ScriptFault
number_between least most words = number_at_most most words >>= λ n. if nat_lt n.0 least then Err BadNumber else Ok n

-- a port: 1 to 65,535
abbrev pub port_operand : List (List ℕ) → Result (ℕ × List (List ℕ)) ScriptFault
port_operand words = number_between 1 65535 words

-- a setting's number
abbrev pub setting_given : Name → List (List ℕ) → Result Heading ScriptFault
setting_given name words = do
  n ← number_at_most (2 ^ 32 - 1) words
  alone (SettingIs name n.0, n.1)

-- `local HOST INC PORT`
abbrev pub local_given : List (List ℕ) → Result Heading ScriptFault
local_given words = do
  host ← host_operand words
  inc ← number_between 1 (2 ^ 32 - 1) host.1
  port ← port_operand inc.1
  alone (Names (record { host = host.0; place = Local inc.0 port.0 }), port.1)

-- `remote HOST PORT`
abbrev pub remote_given : List (List ℕ) → Result Heading ScriptFault
remote_given words = do
  host ← host_operand words
  port ← port_operand host.1
  alone (Names (record { host = host.0; place = Remote port.0 }), port.1)

-- `end TICK`, `turns N`: 1 to 1,000,000,000
abbrev pub limit_given : (ℕ → Heading) → List (List ℕ) → Result Heading ScriptFault
limit_given heading words = do
  n ← number_between 1 1000000000 words
  alone (heading n.0, n.1)

-- a line before `go` whose first word names no setting; `at` is the one event word here
abbrev pub word_given : List ℕ → List (List ℕ) → Result Heading ScriptFault
word_given word words =
    if bytes_eq word (codes "local") then local_given words
    else if bytes_eq word (codes "remote") then remote_given words
    else if bytes_eq word (codes "end") then limit_given EndIs words
    else if bytes_eq word (codes "turns") then limit_given TurnsAre words
    else if bytes_eq word (codes "at") then Err NoGo
    else if bytes_eq word (codes "go") then alone (Go, words)
    else Err UnknownWord

-- a line before `go`
abbrev pub heading_of : List (List ℕ) → Result Heading ScriptFault
heading_of [] = Ok Blank
heading_of (word ∷ words) = elim (name_in names word) [
  | Some name ↦ setting_given name words
  | None ↦ word_given word words
]

-- the words of a line; a comment has none
abbrev pub spoken : List (List ℕ) → List (List ℕ)
spoken [] = []
spoken (word ∷ words) = if is_comment word then [] else word ∷ words

-- the words of a line of an input of at most so many bytes, of which `read` come before it
unfoldable pub words_in : ℕ → ℕ → List ℕ → Result (List (List ℕ)) ScriptFault
words_in limit read line =
    if nat_lt limit (read + length line) then Err InputTooLong
    else if nat_lt longest_line (length (without_feed line)) then Err LongLine
    else if not (is_utf8 (without_feed line)) then Err NotUtf8
    else Ok (spoken (words_of (without_return (without_feed line))))

-- ---- what stands before `go`

-- what the lines said so far
pub record Head : Type 0 where
  pub settings : Settings
  pub named : List Naming
  pub end : Option ℕ
  pub turns : Option ℕ

-- what a node is to do: its settings, where the hosts are, by their numbers, the tick of its end, and how many loop turns it may take
pub record Setup : Type 0 where
  pub settings : Settings
  pub places : List Place
  pub end : ℕ
  pub turns : ℕ

-- the places that were given to a host
abbrev pub given_to : ℕ → List Naming → List Place
given_to n named = map (λ (m : Naming). m.place) (filter (λ (m : Naming). m.host.0 == n) named)

-- a list's one value, if it has exactly one
abbrev pub single : {A : Type 0} → List A → Option A
single [] = None
single (x ∷ []) = Some x
single (x ∷ y ∷ xs) = None

-- a value before others, if there are both
abbrev pub onto : {A : Type 0} → Option A → Option (List A) → Option (List A)
onto None xs = None
onto (Some x) None = None
onto (Some x) (Some xs) = Some (x ∷ xs)

-- the places of so many hosts from number n on, if each was given exactly one
abbrev pub places_from : ℕ → ℕ → List Naming → Option (List Place)
places_from n zero named = Some []
places_from n (suc hosts) named = onto (single (given_to n named)) (places_from (suc n) hosts named)

-- the place of each host, if each was named once, and no other
abbrev pub places_in : ℕ → List Naming → Option (List Place)
places_in hosts named = if length named == hosts then places_from 0 hosts named else None

-- a setup, if no part of it is missing
abbrev pub setup_by : Settings → Option (List Place) → Option ℕ → Option ℕ → Result Setup ScriptFault
setup_by s (Some places) (Some end) (Some turns) = Ok (record { settings = s; places = places; end = end; turns = turns })
setup_by s places end turns = Err Missing

-- at `go` the settings must be valid, and nothing may be missing
abbrev pub setup_of : Head → Result Setup ScriptFault
setup_of head = elim (verdict head.settings) [
  | Err fault ↦ Err (Setting fault)
  | Ok u ↦ setup_by head.settings (places_in head.settings.hosts head.named) head.end head.turns
]

-- ---- what follows `go`

-- a call that is to be made when the clock is at a tick
pub record TimedCall : Type 0 where
  pub line : ℕ
  pub tick : ℕ
  pub client : HostId
  pub server : HostId
  pub service : ℕ
  pub bytes : List ℕ

-- a line that is refused, by its number from 1
pub record Refusal : Type 0 where
  pub line : ℕ
  pub fault : LineFault

-- whether a host is in this node
abbrev pub is_local : Option Place → Bool
is_local None = false
is_local (Some (Local inc port)) = true
is_local (Some (Remote port)) = false

-- a host's place, if it is one of the settings' hosts
abbrev pub place_of : Setup → HostId → Option Place
place_of setup host = slice_get setup.places host.0

-- the word `call`
abbrev pub call_word : List ℕ → Result (Unit {0}) ScriptFault
call_word word = if bytes_eq word (codes "call") then Ok tt else Err UnknownWord

-- in line n, after `at`: `TICK call CLIENT SERVER SERVICE BYTES`, with a tick before the end,
-- and not before that of the line before
abbrev pub timed_given : Setup → ℕ → ℕ → List (List ℕ) → Result TimedCall ScriptFault
timed_given setup least n words = do
  tick ← number_between least (setup.end - 1) words
  call ← first_word call_word tick.1
  client ← host_operand call.1
  server ← host_operand client.1
  service ← number_at_most 255 server.1
  bytes ← bytes_operand service.1
  alone (record { line = n; tick = tick.0; client = client.0; server = server.0; service = service.0; bytes = bytes.0 }, bytes.1)

-- the client must be a host of this node, and the server one of the settings' hosts
abbrev pub between_hosts : Setup → Result TimedCall ScriptFault → Result (Option TimedCall) LineFault
between_hosts setup (Err fault) = Err (ByWords fault)
between_hosts setup (Ok c) = if is_local (place_of setup c.client) && is_some (place_of setup c.server) then Ok (Some c) else Err (ByWorld NoSuchHost)

-- what line n says after `go`, by its words: a call, or nothing if it has no words
abbrev pub timed_of : Setup → ℕ → ℕ → Result (List (List ℕ)) ScriptFault → Result (Option TimedCall) LineFault
timed_of setup least n (Err fault) = Err (ByWords fault)
timed_of setup least n (Ok []) = Ok None
timed_of setup least n (Ok (word ∷ words)) =
    if bytes_eq word (codes "at") then between_hosts setup (timed_given setup least n words) else Err (ByWords UnknownWord)

-- the calls that are still to be made, in order, and the line that is refused after them, if there is one
pub record Calls : Type 0 where
  pub calls : List TimedCall
  pub refused : Option Refusal

-- a call before what is still to be made
abbrev pub with_call : TimedCall → Calls → Calls
with_call c rest = record rest { calls = c ∷ rest.calls }

-- the lines from line n on, before which the input has `read` bytes, and whose ticks may not be below `least`
unfoldable pub calls_from : ℕ → Setup → ℕ → ℕ → ℕ → List (List ℕ) → Calls
calls_from limit setup read n least [] = record { calls = []; refused = None }
calls_from limit setup read n least (line ∷ lines) =
    elim (timed_of setup least n (words_in limit read line)) [
      | Err fault ↦ record { calls = []; refused = Some (record { line = n; fault = fault }) }
      | Ok timed ↦ elim timed [
        | None ↦ calls_from limit setup (read + length line) (suc n) least lines
        | Some c ↦ with_call c (calls_from limit setup (read + length line) (suc n) c.tick lines)
      ]
    ]

-- ---- scripts

-- a script up to `go`: what is to be done, and the calls after it; or the first refusal
pub data Opening : Type 0 where
  Opened : (setup : Setup) (calls : Calls) → Opening
  Unopened : (refusal : Refusal) → Opening

-- a script whose line n is refused
abbrev pub unopened : ℕ → ScriptFault → Opening
unopened n fault = Unopened (record { line = n; fault = ByWords fault })

-- at `go`, in line n, with `read` bytes up to its end, and these lines after it
abbrev pub opened_by : ℕ → Result Setup ScriptFault → ℕ → ℕ → List (List ℕ) → Opening
opened_by limit (Err fault) read n lines = unopened n fault
opened_by limit (Ok setup) read n lines = Opened setup (calls_from limit setup read (suc n) 0 lines)

-- the lines from line n on, if the lines before said so much; without `go` the line after the last one is refused
unfoldable pub opening_from : ℕ → ℕ → ℕ → Head → List (List ℕ) → Opening
opening_from limit read n head [] = unopened n NoGo
opening_from limit read n head (line ∷ lines) =
    let after = read + length line in
    let rest : Head → Opening = λ (h : Head). opening_from limit after (suc n) h lines in
    elim (words_in limit read line >>= heading_of) [
      | Err fault ↦ unopened n fault
      | Ok heading ↦ elim heading [
        | Blank ↦ rest head
        | SettingIs name m ↦ rest (record head { settings = with_setting head.settings name m })
        | Names naming ↦ rest (record head { named = head.named ++ naming ∷ [] })
        | EndIs tick ↦ rest (record head { end = Some tick })
        | TurnsAre m ↦ rest (record head { turns = Some m })
        | Go ↦ opened_by limit (setup_of head) after n lines
      ]
    ]

-- a node script of at most so many bytes
unfoldable pub opening : ℕ → List ℕ → Opening
opening limit bytes = opening_from limit 0 1 (record { settings = usual; named = []; end = None; turns = None }) (lines_of bytes)
