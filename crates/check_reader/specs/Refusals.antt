-- Refusals that are read from words.
use Rattle.std.specs.Prelude.{ℕ, ◌^◌, Option, None, Some, List, [], ◌∷◌, codes, bytes_eq, if◌then◌else◌}
use Rattle.homa_plain.specs.Bytes.{◌>>=◌}
use Rattle.homa_plain.specs.Script.{names}
use Rattle.homa_plain.specs.Text.{name_word, start_word, script_words, world_words}
use Rattle.homa_plain.specs.declared.fault.LineFault.{LineFault}
use Rattle.homa_plain.specs.declared.fault.LineFault.TheVariants.{Script, World}
use Rattle.homa_plain.specs.declared.fault.ScriptFault.{ScriptFault}
use Rattle.homa_plain.specs.declared.fault.ScriptFault.TheVariants.{LongLine, NotUtf8, UnknownWord, BadNumber, BadHex, Extra, Missing, Setting, NoGo}
use Rattle.homa_plain.specs.declared.fault.ScriptFault.TheVariants.{InputTooLong}
use Rattle.homa_plain.specs.declared.fault.StartFault.{StartFault}
use Rattle.homa_plain.specs.declared.fault.StartFault.TheVariants.{Empty, TooLong, SelfCall, CallsFull, SeqSpent}
use Rattle.homa_plain.specs.declared.fault.WorldFault.{WorldFault}
use Rattle.homa_plain.specs.declared.fault.WorldFault.TheVariants.{NoSuchHost, NoSuchPacket, Late, Start, NoSpare, ClockEnd, Decodes, OutOfBand, Back}
use Rattle.homa_plain.specs.declared.settings.Name.{Name}
use Rattle.homa_plain.specs.declared.settings.SettingFault.{SettingFault}
use Rattle.homa_plain.specs.declared.settings.SettingFault.TheVariants.{OutOfRange, UnschedOverWindow, RateUnderSeg}
use Rattle.check_words.specs.Fields.{◌⊗◌, number_at, word_at, one_of, whole, ended}

-- the first of some words
abbrev pub first_word : List (List ℕ) → List ℕ
first_word [] = []
first_word (word ∷ words) = word

-- the first word of a refusal by the reader of schedules
abbrev pub script_name : ScriptFault → List ℕ
script_name fault = first_word (script_words fault)

-- the first word of a refusal by the world
abbrev pub world_name : WorldFault → List ℕ
world_name fault = first_word (world_words fault)

-- the first word of a line's refusal
abbrev pub fault_name : LineFault → List ℕ
fault_name (Script fault) = script_name fault
fault_name (World fault) = world_name fault

-- the refusals that are one word
abbrev pub plain_faults : List LineFault
plain_faults =
    Script LongLine ∷ Script NotUtf8 ∷ Script UnknownWord ∷ Script BadNumber ∷ Script BadHex ∷ Script Extra ∷ Script Missing ∷ Script NoGo ∷
    Script InputTooLong ∷
    World NoSuchHost ∷ World NoSuchPacket ∷ World NoSpare ∷ World ClockEnd ∷ World Decodes ∷ []

-- the refusal that is this one word
unfoldable pub plain_of : List ℕ → Option LineFault
plain_of word = one_of fault_name plain_faults word

-- the name of a setting
unfoldable pub name_of : List ℕ → Option Name
name_of word = one_of name_word names word

-- why calls can't start
abbrev pub starts : List StartFault
starts = Empty ∷ TooLong ∷ SelfCall ∷ CallsFull ∷ SeqSpent ∷ []

-- why a call can't start
unfoldable pub start_of : List ℕ → Option StartFault
start_of word = one_of start_word starts word

-- a setting that is out of its range
unfoldable pub out_of_range_in : List (List ℕ) → Option SettingFault
out_of_range_in words = whole (λ name. OutOfRange name) (word_at name_of) words

-- why settings aren't valid
unfoldable pub setting_in : List (List ℕ) → Option SettingFault
setting_in [] = None
setting_in (word ∷ words) =
    if bytes_eq word (codes "OutOfRange") then out_of_range_in words
    else if bytes_eq word (codes "UnschedOverWindow") then ended UnschedOverWindow words
    else if bytes_eq word (codes "RateUnderSeg") then ended RateUnderSeg words
    else None

-- two numbers, and no other word
unfoldable pub two_in : ℕ → List (List ℕ) → Option (ℕ × ℕ)
two_in limit words = whole (λ x. x) (number_at limit ⊗ number_at limit) words

-- a start that is refused
unfoldable pub start_in : List (List ℕ) → Option WorldFault
start_in words = whole (λ fault. Start fault) (word_at start_of) words

-- a refusal by the world, of more words
unfoldable pub world_in : List ℕ → List (List ℕ) → Option WorldFault
world_in word words =
    if bytes_eq word (codes "Start") then start_in words
    else if bytes_eq word (codes "Late") then (two_in (2 ^ 64) words >>= λ x. Some (Late x.0 x.1))
    else if bytes_eq word (codes "OutOfBand") then (two_in (2 ^ 32) words >>= λ x. Some (OutOfBand x.0 x.1))
    else if bytes_eq word (codes "Back") then (two_in (2 ^ 64) words >>= λ x. Some (Back x.0 x.1))
    else None

-- a refusal of more words
unfoldable pub long_in : List ℕ → List (List ℕ) → Option LineFault
long_in word words =
    if bytes_eq word (codes "Setting") then (setting_in words >>= λ fault. Some (Script (Setting fault)))
    else (world_in word words >>= λ fault. Some (World fault))

-- a refusal, by whether its first word is all of it
abbrev pub plain_or_long : Option LineFault → List ℕ → List (List ℕ) → Option LineFault
plain_or_long None word words = long_in word words
plain_or_long (Some fault) word words = ended fault words

-- the refusal that words tell
unfoldable pub fault_in : List (List ℕ) → Option LineFault
fault_in [] = None
fault_in (word ∷ words) = plain_or_long (plain_of word) word words
