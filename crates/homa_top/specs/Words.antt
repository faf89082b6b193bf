-- The words of a command line.
use Rattle.std.specs.Prelude.{ℕ, Bool, true, false, ◌&&◌, nat_le, if◌then◌else◌, Option, None, Some, List, [], ◌∷◌, map, codes}
use Rattle.std.specs.Str.{bytes_eq}
use denote.Ref.{Bor}
use Rattle.homa_plain.specs.Bytes.{◌>>=◌}
use Rattle.homa_plain.specs.Numbers.{number_of}
use Rattle.homa_top.specs.declared.words.Command.{Command}
use Rattle.homa_top.specs.declared.words.Command.TheVariants.{Replay, Make, Gen, Node, Record, Check, Quiet}
use Rattle.homa_plain.specs.Limits.{longest_message}

-- a number of at least 1 and at most so much
abbrev pub within : ℕ → ℕ → Option ℕ
within most n = if nat_le 1 n && nat_le n most then Some n else None

-- a word as a number of at least 1 and at most so much
abbrev pub number_within : ℕ → List ℕ → Option ℕ
number_within most word = number_of word >>= within most

-- two words are a seed and a number of calls
abbrev pub seeded : (ℕ → ℕ → Command) → List ℕ → List ℕ → Option Command
seeded make first second = number_of first >>= λ seed. number_within 100000 second >>= λ calls. Some (make seed calls)

-- two words are the lengths of a request and of a response
abbrev pub sized : (ℕ → ℕ → Command) → List ℕ → List ℕ → Option Command
sized make first second = number_within longest_message first >>= λ n. number_within longest_message second >>= λ m. Some (make n m)

-- a word with two behind it
abbrev pub numbered : List ℕ → List ℕ → List ℕ → Option Command
numbered word first second =
    if bytes_eq word (codes "make") then seeded Make first second
    else if bytes_eq word (codes "gen") then seeded Gen first second
    else if bytes_eq word (codes "quiet") then sized Quiet first second
    else None

-- the command that these words are, if they are one
abbrev pub command_of : List (List ℕ) → Option Command
command_of (word ∷ []) =
    if bytes_eq word (codes "replay") then Some Replay
    else if bytes_eq word (codes "node") then Some Node
    else if bytes_eq word (codes "record") then Some Record
    else if bytes_eq word (codes "check") then Some Check
    else None
command_of (word ∷ first ∷ second ∷ []) = numbered word first second
command_of words = None

-- the command that a command line says, if it says one
abbrev pub said : List (Bor (List ℕ)) → Option Command
said words = command_of (map (λ w. w.now) words)

-- the line that names the commands
abbrev pub usage_line : List ℕ
usage_line = codes "usage: homa replay | make SEED CALLS | gen SEED CALLS | node | record | check | quiet N M\n"

-- a command that prints all that it prints at its end, behind all that can find no memory: `gen`, `check` and `quiet`
abbrev pub prints_last : Option Command → Bool
prints_last (Some (Gen seed calls)) = true
prints_last (Some Check) = true
prints_last (Some (Quiet n m)) = true
prints_last other = false

-- a command that reads the source
abbrev pub reads : Option Command → Bool
reads None = false
reads (Some Replay) = true
reads (Some Node) = true
reads (Some Record) = true
reads (Some Check) = true
reads (Some other) = false

-- a command that uses the net and the clock
abbrev pub uses_net : Option Command → Bool
uses_net (Some Node) = true
uses_net (Some Record) = true
uses_net other = false
