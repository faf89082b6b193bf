-- Entries that are read from the words of a line. No public clause speaks of them: `proofs/EntryLaws.antt` proves that
-- an entry is read exactly where the line is that of the entry.
use Rattle.std.specs.Prelude.{ℕ, ◌^◌, ◌==◌, Option, None, Some, List, [], ◌∷◌, codes, if◌then◌else◌}
use Rattle.std.specs.List.{fold, zip}
use Rattle.homa_plain.specs.Bytes.{◌>>=◌}
use Rattle.homa_plain.specs.declared.id.CallId.{CallId}
use Rattle.homa_plain.specs.declared.id.HostId.{HostId}
use Rattle.homa_plain.specs.declared.settings.Settings.{Settings as TheSettings}
use Rattle.homa_plain.specs.Settings.{usual}
use Rattle.homa_plain.specs.Script.{names, with_setting}
use Rattle.homa_plain.specs.Entries.{PlainEntry, PlainSettings, PlainCall, PlainDeliver, PlainClock, PlainRestart, PlainInject, PlainShift, PlainJunk}
use Rattle.homa_plain.specs.Entries.{PlainStale, PlainSend, PlainRun, PlainDone, PlainFail, PlainDrop, PlainGaps, PlainBury, PlainFree, PlainFullRows}
use Rattle.homa_plain.specs.Entries.{PlainFullPages, PlainBalance, PlainRecv, PlainFinished, PlainRefused, PlainStalled}
use Rattle.check_reader.specs.declared.entries.Form.{Form}
use Rattle.check_reader.specs.declared.entries.Form.TheVariants.{Settings, Call, Deliver, Clock, Restart, Inject, Shift, Junk, Stale, Send, Run, Done}
use Rattle.check_reader.specs.declared.entries.Form.TheVariants.{Fail, Drop, Gaps, Bury, Free, Full, Balance, Recv, Finished, Refused, Stalled}
use Rattle.check_reader.specs.declared.entries.Lack.{Lack}
use Rattle.check_reader.specs.declared.entries.Lack.TheVariants.{Rows, Pages}
use Rattle.check_words.specs.Fields.{◌⊗◌, number_at, host_at, id_at, route_at, role_at, why_at, hex_at, cutoffs_at, word_at, parts, times, one_of}
use Rattle.check_words.specs.Fields.{whole, ended, is_empty}
use Rattle.check_reader.specs.Bodies.{kind_of, body_in}
use Rattle.check_reader.specs.Refusals.{fault_in}

-- a line's first word
abbrev pub form_name : Form → List ℕ
form_name Settings = codes "settings"
form_name Call = codes "call"
form_name Deliver = codes "deliver"
form_name Clock = codes "clock"
form_name Restart = codes "restart"
form_name Inject = codes "inject"
form_name Shift = codes "shift"
form_name Junk = codes "junk"
form_name Stale = codes "stale"
form_name Send = codes "send"
form_name Run = codes "run"
form_name Done = codes "done"
form_name Fail = codes "fail"
form_name Drop = codes "drop"
form_name Gaps = codes "gaps"
form_name Bury = codes "bury"
form_name Free = codes "free"
form_name Full = codes "full"
form_name Balance = codes "balance"
form_name Recv = codes "recv"
form_name Finished = codes "ok"
form_name Refused = codes "refused"
form_name Stalled = codes "stalled"

-- all forms of lines
abbrev pub forms : List Form
forms = Send ∷ Deliver ∷ Clock ∷ Free ∷ Bury ∷ Call ∷ Run ∷ Done ∷ Fail ∷ Drop ∷ Stale ∷ Gaps ∷ Full ∷ Recv ∷ Inject ∷ Junk ∷ Restart ∷
    Shift ∷ Balance ∷ Settings ∷ Finished ∷ Refused ∷ Stalled ∷ []

-- the form whose name a word is
unfoldable pub form_of : List ℕ → Option Form
form_of word = one_of form_name forms word

-- ---- settings

-- `skew` and `wire`, which may be left out from the end where they are 0 and 1, and then are left out
unfoldable pub last_two_in : List (List ℕ) → Option (ℕ × ℕ)
last_two_in words =
    if is_empty words then Some (0, 1)
    else (number_at (2 ^ 32) words >>= λ skew.
    if is_empty skew.1 then (if skew.0 == 0 then None else Some (skew.0, 1))
    else (number_at (2 ^ 32) skew.1 >>= λ wire. ended (skew.0, wire.0) wire.1 >>= λ both. if both.1 == 1 then None else Some both))

-- the settings whose first thirteen numbers these are, in the order of their names, with this `skew` and this `wire`
abbrev pub with_numbers : List ℕ → ℕ × ℕ → TheSettings
with_numbers ns both = record (fold (λ s named. with_setting s named.0 named.1) usual (zip names ns)) { skew = both.0; wire = both.1 }

-- `settings` and 13 to 15 numbers
unfoldable pub settings_in : List (List ℕ) → Option TheSettings
settings_in words = times (number_at (2 ^ 32)) 13 words >>= λ ns. last_two_in ns.1 >>= λ both. Some (with_numbers ns.0 both)

-- ---- other lines

-- `call ID SERVER SERVICE HEX`
unfoldable pub call_in : List (List ℕ) → Option PlainEntry
call_in words = whole (λ x. PlainCall x.0 x.1.0 x.1.1.0 x.1.1.1) (id_at ⊗ host_at ⊗ number_at (2 ^ 8) ⊗ hex_at) words

-- `deliver N`
unfoldable pub deliver_in : List (List ℕ) → Option PlainEntry
deliver_in words = whole (λ n. PlainDeliver n) (number_at (2 ^ 64)) words

-- `clock T`
unfoldable pub clock_in : List (List ℕ) → Option PlainEntry
clock_in words = whole (λ n. PlainClock n) (number_at (2 ^ 64)) words

-- `restart HOST INC`
unfoldable pub restart_in : List (List ℕ) → Option PlainEntry
restart_in words = whole (λ x. PlainRestart x.0 x.1) (host_at ⊗ number_at (2 ^ 32)) words

-- `inject HOST HEX`
unfoldable pub inject_in : List (List ℕ) → Option PlainEntry
inject_in words = whole (λ x. PlainInject x.0 x.1) (host_at ⊗ hex_at) words

-- `shift HOST N`
unfoldable pub shift_in : List (List ℕ) → Option PlainEntry
shift_in words = whole (λ x. PlainShift x.0 x.1) (host_at ⊗ number_at (2 ^ 32)) words

-- `junk HOST`
unfoldable pub junk_in : List (List ℕ) → Option PlainEntry
junk_in words = whole (λ host. PlainJunk host) host_at words

-- `stale HOST AT NOW`
unfoldable pub stale_in : List (List ℕ) → Option PlainEntry
stale_in words = whole (λ x. PlainStale x.0 x.1.0 x.1.1) (host_at ⊗ number_at (2 ^ 64) ⊗ number_at (2 ^ 64)) words

-- `send N FROM>TO INC KIND ROLE ID` and what the kind tells
unfoldable pub send_in : List (List ℕ) → Option PlainEntry
send_in words =
    (number_at (2 ^ 64) ⊗ route_at ⊗ number_at (2 ^ 32) ⊗ word_at kind_of ⊗ role_at ⊗ id_at) words >>= λ x.
    let y = x.0.1.1.1 in
    body_in y.0 x.1 >>= λ told. Some (PlainSend x.0.0 x.0.1.0.0 x.0.1.0.1 x.0.1.1.0 y.1.0 y.1.1 told.0 told.1 told.2)

-- `run HOST ID SERVICE REQUEST RESPONSE HOLD`
unfoldable pub run_in : List (List ℕ) → Option PlainEntry
run_in words = whole (λ x. PlainRun x.0 x.1.0 x.1.1.0 x.1.1.1.0 x.1.1.1.1.0 x.1.1.1.1.1)
    (host_at ⊗ id_at ⊗ number_at (2 ^ 8) ⊗ hex_at ⊗ hex_at ⊗ number_at (2 ^ 32)) words

-- `done ID HEX`
unfoldable pub done_in : List (List ℕ) → Option PlainEntry
done_in words = whole (λ x. PlainDone x.0 x.1) (id_at ⊗ hex_at) words

-- `fail ID timeout`, `fail ID forgotten`
unfoldable pub fail_in : List (List ℕ) → Option PlainEntry
fail_in words = whole (λ x. PlainFail x.0 x.1) (id_at ⊗ why_at) words

-- `drop HOST ID`
unfoldable pub drop_in : List (List ℕ) → Option PlainEntry
drop_in words = whole (λ x. PlainDrop x.0 x.1) (host_at ⊗ id_at) words

-- `gaps HOST ID`
unfoldable pub gaps_in : List (List ℕ) → Option PlainEntry
gaps_in words = whole (λ x. PlainGaps x.0 x.1) (host_at ⊗ id_at) words

-- `free HOST ID`
unfoldable pub free_in : List (List ℕ) → Option PlainEntry
free_in words = whole (λ x. PlainFree x.0 x.1) (host_at ⊗ id_at) words

-- `bury HOST ID UNTIL`
unfoldable pub bury_in : List (List ℕ) → Option PlainEntry
bury_in words = whole (λ x. PlainBury x.0 x.1.0 x.1.1) (host_at ⊗ id_at ⊗ number_at (2 ^ 64)) words

-- what a host has too few of, as a word
abbrev pub lack_name : Lack → List ℕ
lack_name Rows = codes "rows"
lack_name Pages = codes "pages"

-- rows or pages, by their word
unfoldable pub lack_of : List ℕ → Option Lack
lack_of word = one_of lack_name (Rows ∷ Pages ∷ []) word

-- what a host has no room for: two numbers of rows or pages
unfoldable pub lack_in : List (List ℕ) → Option (Lack × ℕ × ℕ)
lack_in words = whole (λ x. (x.0, x.1.0, x.1.1)) (word_at lack_of ⊗ number_at (2 ^ 32) ⊗ number_at (2 ^ 32)) words

-- the entry of a host that has no room
abbrev pub full_entry : HostId → CallId → Lack × ℕ × ℕ → PlainEntry
full_entry host id (Rows, a, b) = PlainFullRows host id a b
full_entry host id (Pages, a, b) = PlainFullPages host id a b

-- `full HOST ID rows ROWS LIMIT`, `full HOST ID pages NEED FREE`
unfoldable pub full_in : List (List ℕ) → Option PlainEntry
full_in words = (host_at ⊗ id_at) words >>= λ x. lack_in x.1 >>= λ lack. Some (full_entry x.0.0 x.0.1 lack)

-- `balance HOST VERSION` and eight bounds
unfoldable pub balance_in : List (List ℕ) → Option PlainEntry
balance_in words = whole (λ x. PlainBalance x.0 x.1) (host_at ⊗ cutoffs_at) words

-- `recv HOST FROM HEX`
unfoldable pub recv_in : List (List ℕ) → Option PlainEntry
recv_in words = whole (λ x. PlainRecv x.0 x.1.0 x.1.1) (host_at ⊗ host_at ⊗ hex_at) words

-- `ok N`
unfoldable pub finished_in : List (List ℕ) → Option PlainEntry
finished_in words = whole (λ n. PlainFinished n) (number_at (2 ^ 64)) words

-- `stalled TURNS NOW`
unfoldable pub stalled_in : List (List ℕ) → Option PlainEntry
stalled_in words = whole (λ x. PlainStalled x.0 x.1) (number_at (2 ^ 64) ⊗ number_at (2 ^ 64)) words

-- `refused LINE` and the fault's words
unfoldable pub refused_in : List (List ℕ) → Option PlainEntry
refused_in words = number_at (2 ^ 64) words >>= λ line. fault_in line.1 >>= λ fault. Some (PlainRefused line.0 fault)

-- what stands behind a line's first word
unfoldable pub form_in : Form → List (List ℕ) → Option PlainEntry
form_in Settings words = settings_in words >>= λ settings. Some (PlainSettings settings)
form_in Call words = call_in words
form_in Deliver words = deliver_in words
form_in Clock words = clock_in words
form_in Restart words = restart_in words
form_in Inject words = inject_in words
form_in Shift words = shift_in words
form_in Junk words = junk_in words
form_in Stale words = stale_in words
form_in Send words = send_in words
form_in Run words = run_in words
form_in Done words = done_in words
form_in Fail words = fail_in words
form_in Drop words = drop_in words
form_in Gaps words = gaps_in words
form_in Bury words = bury_in words
form_in Free words = free_in words
form_in Full words = full_in words
form_in Balance words = balance_in words
form_in Recv words = recv_in words
form_in Finished words = finished_in words
form_in Refused words = refused_in words
form_in Stalled words = stalled_in words

-- the entry that words tell
unfoldable pub entry_in : List (List ℕ) → Option PlainEntry
entry_in [] = None
entry_in (word ∷ words) = form_of word >>= λ form. form_in form words

-- the entry whose line this is
unfoldable pub entry_of : List ℕ → Option PlainEntry
entry_of line = entry_in (parts 32 line)
