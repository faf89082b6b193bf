-- What the next line of a script is.
use Rattle.std.specs.Prelude.{◌≡◌, ℕ, ◌+◌, ◌<◌, ◌≤◌, nat_lt, Bool, true, false, not, if◌then◌else◌, Option, Some, Result, Ok, Err, List, [], ◌∷◌, length}
use Rattle.std.specs.Str.{is_utf8}
use Rattle.homa_plain.specs.declared.fault.ScriptFault.{ScriptFault}
use Rattle.homa_plain.specs.declared.fault.ScriptFault.TheVariants.{InputTooLong, LongLine, NotUtf8}
use Rattle.homa_plain.specs.Input.{without_feed}
use Rattle.homa_plain.specs.Script.{without_return, longest_line}
use Rattle.text_lines.specs.Lines.{Reading}
use Rattle.script_lines.specs.declared.stop.ScriptStop.{ScriptStop}
use Rattle.script_lines.specs.declared.stop.ScriptStop.TheVariants.{Read, Fault}
use Rattle.script_lines.specs.Place.{Place, place_of, lines_left}
use Rattle.script_lines.specs.Read.{IsRead, IsCut}

-- a line of an input of at most so many bytes, of which `read` stand before it, without its feed and return; or why it is refused by what it is made of
unfoldable pub text_in : ℕ → ℕ → List ℕ → Result (List ℕ) ScriptFault
text_in limit read line =
    if nat_lt limit (read + length line) then Err InputTooLong
    else if nat_lt longest_line (length (without_feed line)) then Err LongLine
    else if not (is_utf8 (without_feed line)) then Err NotUtf8
    else Ok (without_return (without_feed line))

-- a line came, and is the last one
pub record IsLine (old new : Reading) (bytes : List ℕ) (left : Option (List ℕ)) : Type 0 where
  pub line : List ℕ
  pub lines : IsRead bytes left (lines_left (place_of old)) (λ more. line ∷ lines_left (place_of new) more)
  pub read : new.read ≡ old.read + length line
  pub text : text_in old.limit old.read line ≡ Ok (without_return new.line)

-- whatever follows, the next line is refused
pub record IsRefused (old : Reading) (bytes : List ℕ) (left : Option (List ℕ)) (fault : ScriptFault) : Type 0 where
  pub line : List ℕ → List ℕ
  pub later : List ℕ → List (List ℕ)
  pub lines : IsRead bytes left (lines_left (place_of old)) (λ more. line more ∷ later more)
  pub refused : (more : List ℕ) → text_in old.limit old.read (line more) ≡ Err fault

-- no line is left
abbrev pub IsNone : Reading → List ℕ → Option (List ℕ) → Type 0
IsNone old bytes left = IsRead bytes left (lines_left (place_of old)) (λ more. []) × (left ≡ Some [])

-- what the next line is
abbrev pub IsNextLine : Reading → Reading → List ℕ → Option (List ℕ) → Result Bool ScriptStop → Type 0
IsNextLine old new bytes left (Ok true) = IsLine old new bytes left
IsNextLine old new bytes left (Ok false) = IsNone old bytes left
IsNextLine old new bytes left (Err (Read failed)) = IsCut bytes left
IsNextLine old new bytes left (Err (Fault fault)) = IsRefused old bytes left fault

-- the number of the next line, and how many bytes came with it
abbrev pub IsNumbered : Place → Place → Result Bool ScriptStop → Type 0
IsNumbered old new (Ok true) = (new.number ≡ old.number + 1) × (old.read < new.read) × (new.read ≤ old.limit)
IsNumbered old new (Ok false) = new.number ≡ old.number + 1
IsNumbered old new (Err (Read failed)) = Unit {0}
IsNumbered old new (Err (Fault fault)) = new.number ≡ old.number + 1
