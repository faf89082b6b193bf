-- The grammar of an experiment: what a line stands for, by its words, or which word is wrong.
use Rattle.std.specs.Prelude.{ℕ, ◌*◌, ◌%◌, ◌==◌, ◌&&◌, nat_le, Bool, true, if◌then◌else◌, Option, None, Some, Result, Ok, Err, List}
use Rattle.std.specs.Prelude.{[], ◌∷◌, codes}
use Rattle.std.specs.Str.{bytes_eq}
use Rattle.homa_plain.specs.declared.id.HostId.{HostId}
use Rattle.homa_plain.specs.declared.settings.Name.{Name}
use Rattle.homa_plain.specs.Numbers.{number_of}
use Rattle.homa_plain.specs.Script.{is_comment, names, name_in}
use Rattle.experiment.specs.declared.amounts.Amount.{Amount}
use Rattle.experiment.specs.declared.amounts.Amount.TheVariants as amount
use Rattle.experiment.specs.declared.fault.Refusal.{Refusal}
use Rattle.experiment.specs.declared.fault.Wrong.{Wrong}
use Rattle.experiment.specs.declared.fault.Wrong.TheVariants.{UnknownName, Missing, Extra, Outside, Uneven, SelfCall}
use Rattle.experiment.specs.declared.fault.Wrong.TheVariants as wrong
use Rattle.experiment.specs.declared.statement.Statement.{Statement}
use Rattle.experiment.specs.declared.statement.Statement.TheVariants.{Blank, Setting, Workload, Size, Length, Cumulative, Hot, Restart, Call, Inject, Shift}
use Rattle.experiment.specs.declared.statement.Statement.TheVariants as line
use Rattle.experiment.specs.declared.network.Card.{Card}
use Rattle.experiment.specs.declared.network.Card.TheVariants.{Fifo, Levels, Srpt}
use Rattle.experiment.specs.declared.verbs.Verb.{Verb}
use Rattle.experiment.specs.declared.verbs.Verb.TheVariants as verb
use Rattle.experiment.specs.Amounts.{least, most, amounts, amount_in}
use Rattle.experiment.specs.Verbs.{verbs, verb_in}

-- ---- words

-- the next reader, if a value was read; otherwise the refusal
infixl 10 ◌>>=◌
abbrev pub ◌>>=◌ : {A B : Type 0} → Result A Refusal → (A → Result B Refusal) → Result B Refusal
(Err refusal) >>= f = Err refusal
(Ok x) >>= f = f x

-- what was read, and the words behind it
abbrev pub with_words : {A : Type 0} → Result A Refusal → List (List ℕ) → Result (A × List (List ℕ)) Refusal
with_words (Ok x) words = Ok (x, words)
with_words (Err refusal) words = Err refusal

-- this word of its line is wrong
abbrev pub refused : {A : Type 0} → ℕ → Wrong → Result A Refusal
refused word what = Err (record { word = word; wrong = what })

-- a number that was read, if it is of this range
abbrev pub in_range : (word low high : ℕ) → Option ℕ → Result ℕ Refusal
in_range word low high None = refused word (Outside low high)
in_range word low high (Some n) = if nat_le low n && nat_le n high then Ok n else refused word (Outside low high)

-- the next word as a number of this range
abbrev pub number_between : (word low high : ℕ) → List (List ℕ) → Result (ℕ × List (List ℕ)) Refusal
number_between word low high [] = refused word Missing
number_between word low high (text ∷ words) = with_words (in_range word low high (number_of text)) words

-- that no word is left
abbrev pub last : ℕ → List (List ℕ) → Result (Unit {0}) Refusal
last word [] = Ok tt
last word (text ∷ words) = refused word Extra

-- a value with no word behind it
abbrev pub alone : {A : Type 0} → ℕ → A × List (List ℕ) → Result A Refusal
alone word (x, words) = last word words >>= λ _. Ok x

-- a host's number
abbrev pub host_given : ℕ → List (List ℕ) → Result (HostId × List (List ℕ)) Refusal
host_given word words = number_between word 0 31 words >>= λ n. Ok (record { 0 = n.0 }, n.1)

-- a moment: nanoseconds of a day
abbrev pub moment_given : ℕ → List (List ℕ) → Result (ℕ × List (List ℕ)) Refusal
moment_given word words = number_between word 0 86400000000000 words >>= λ n. Ok (n.0 * 1000, n.1)

-- ---- lines

-- a setting's number
abbrev pub setting_given : Name → List (List ℕ) → Result Statement Refusal
setting_given name words = do
  n ← number_between 2 0 4294967295 words
  alone 3 (Setting name n.0, n.1)

-- whether an amount may have this number: a byte takes a whole number of picoseconds
abbrev pub is_even : Amount → ℕ → Bool
is_even amount.Link n = 8000000 % n == 0
is_even amount.Delay n = true
is_even amount.Switch n = true
is_even amount.HostDelay n = true
is_even amount.ServiceTime n = true
is_even amount.Overhead n = true
is_even amount.Buffer n = true
is_even amount.CardLimit n = true
is_even amount.Tick n = true
is_even amount.Spread n = true
is_even amount.Loss n = true
is_even amount.Repeat n = true
is_even amount.Jitter n = true
is_even amount.Load n = true
is_even amount.Exact n = true
is_even amount.Service n = true
is_even amount.Incast n = true
is_even amount.Burst n = true
is_even amount.Warm n = true
is_even amount.Measure n = true
is_even amount.Seed n = true
is_even amount.Seeds n = true
is_even amount.Parts n = true
is_even amount.Events n = true

-- an amount's number
abbrev pub amount_given : Amount → List (List ℕ) → Result Statement Refusal
amount_given amount words = do
  n ← number_between 2 (least amount) (most amount) words
  if is_even amount n.0 then alone 3 (line.Amount amount n.0, n.1) else refused 2 Uneven

-- `workload NUMBER`
abbrev pub workload_given : List (List ℕ) → Result Statement Refusal
workload_given words = do
  n ← number_between 2 1 5 words
  alone 3 (Workload n.0, n.1)

-- `size UPTO SHARE`
abbrev pub size_given : List (List ℕ) → Result Statement Refusal
size_given words = do
  upto ← number_between 2 1 1000000 words
  share ← number_between 3 1 1000000 upto.1
  alone 4 (Size upto.0 share.0, share.1)

-- a length with its share, which is 1 if no word is left
abbrev pub length_with : ℕ → List (List ℕ) → Result Statement Refusal
length_with upto [] = Ok (Length upto 1)
length_with upto (text ∷ words) = in_range 3 1 1000000 (number_of text) >>= λ share. alone 4 (Length upto share, words)

-- `length BYTES` and `length BYTES SHARE`
abbrev pub length_given : List (List ℕ) → Result Statement Refusal
length_given words = do
  upto ← number_between 2 1 1000000 words
  length_with upto.0 upto.1

-- `cumulative UPTO MILLIONTHS`
abbrev pub cumulative_given : List (List ℕ) → Result Statement Refusal
cumulative_given words = do
  upto ← number_between 2 1 1000000 words
  sum ← number_between 3 1 1000000 upto.1
  alone 4 (Cumulative upto.0 sum.0, sum.1)

-- the card that a word names
abbrev pub card_of : List ℕ → Option Card
card_of word =
    if bytes_eq word (codes "fifo") then Some Fifo
    else if bytes_eq word (codes "levels") then Some Levels
    else if bytes_eq word (codes "srpt") then Some Srpt
    else None

-- a card that was named, with no word behind it
abbrev pub card_by : Option Card → List (List ℕ) → Result Statement Refusal
card_by None words = refused 2 wrong.Card
card_by (Some card) words = alone 3 (line.Card card, words)

-- `card fifo`, `card levels` or `card srpt`
abbrev pub card_given : List (List ℕ) → Result Statement Refusal
card_given [] = refused 2 Missing
card_given (text ∷ words) = card_by (card_of text) words

-- `hot HOST SHARE`
abbrev pub hot_given : List (List ℕ) → Result Statement Refusal
hot_given words = do
  host ← host_given 2 words
  share ← number_between 3 0 1000 host.1
  alone 4 (Hot (record { host = host.0; share = share.0 }), share.1)

-- `restart HOST NANOSECONDS`
abbrev pub restart_given : ℕ → List (List ℕ) → Result Statement Refusal
restart_given n words = do
  host ← host_given 2 words
  at ← moment_given 3 host.1
  alone 4 (Restart (record { host = host.0; at = at.0; line = n }), at.1)

-- the bytes and the moment of a call between these hosts
abbrev pub call_between : ℕ → HostId → HostId → List (List ℕ) → Result Statement Refusal
call_between n client server words = do
  bytes ← number_between 4 1 1000000 words
  at ← moment_given 5 bytes.1
  alone 6 (Call (record { client = client; server = server; bytes = bytes.0; at = at.0; line = n }), at.1)

-- `call CLIENT SERVER BYTES NANOSECONDS`
abbrev pub call_given : ℕ → List (List ℕ) → Result Statement Refusal
call_given n words = do
  client ← host_given 2 words
  server ← host_given 3 client.1
  if client.0.0 == server.0.0 then refused 3 SelfCall else call_between n client.0 server.0 server.1

-- `inject HOST BYTES NANOSECONDS`
abbrev pub inject_given : ℕ → List (List ℕ) → Result Statement Refusal
inject_given n words = do
  host ← host_given 2 words
  bytes ← number_between 3 0 1500 host.1
  at ← moment_given 4 bytes.1
  alone 5 (Inject (record { host = host.0; bytes = bytes.0; at = at.0; line = n }), at.1)

-- `shift HOST TICKS NANOSECONDS`
abbrev pub shift_given : ℕ → List (List ℕ) → Result Statement Refusal
shift_given n words = do
  host ← host_given 2 words
  ticks ← number_between 3 0 2000 host.1
  at ← moment_given 4 ticks.1
  alone 5 (Shift (record { host = host.0; ticks = ticks.0; at = at.0; line = n }), at.1)

-- a line that says this
abbrev pub verb_given : ℕ → Verb → List (List ℕ) → Result Statement Refusal
verb_given n verb.Workload words = workload_given words
verb_given n verb.Size words = size_given words
verb_given n verb.Length words = length_given words
verb_given n verb.Cumulative words = cumulative_given words
verb_given n verb.Card words = card_given words
verb_given n verb.Hot words = hot_given words
verb_given n verb.Restart words = restart_given n words
verb_given n verb.Call words = call_given n words
verb_given n verb.Inject words = inject_given n words
verb_given n verb.Shift words = shift_given n words

-- a line whose first word says this, or nothing
abbrev pub other_given : ℕ → Option Verb → List (List ℕ) → Result Statement Refusal
other_given n (Some verb) words = verb_given n verb words
other_given n None words = refused 1 UnknownName

-- a line whose first word names this amount, or none
abbrev pub amount_or_other : ℕ → Option Amount → List ℕ → List (List ℕ) → Result Statement Refusal
amount_or_other n (Some amount) word words = amount_given amount words
amount_or_other n None word words = other_given n (verb_in verbs word) words

-- a line whose first word names this setting, or none
abbrev pub setting_or_other : ℕ → Option Name → List ℕ → List (List ℕ) → Result Statement Refusal
setting_or_other n (Some name) word words = setting_given name words
setting_or_other n None word words = amount_or_other n (amount_in amounts word) word words

-- what the words of line n stand for; no words, or those of a comment, stand for nothing
abbrev pub line_of : ℕ → List (List ℕ) → Result Statement Refusal
line_of n [] = Ok Blank
line_of n (word ∷ words) = if is_comment word then Ok Blank else setting_or_other n (name_in names word) word words
