-- What a verdict says of a text.
use Rattle.std.specs.Prelude.{◌≡◌, ◌⊎◌, ℕ, ◌+◌, ◌<◌, ◌≤◌, List, [], ◌∷◌, ◌++◌, length}
use Rattle.homa_plain.specs.Entries.{PlainEntry}
use Rattle.homa_plain.specs.Input.{lines_of, without_feed}
use Rattle.homa_plain.specs.Text.{line_text}
use Rattle.trace_rules.specs.View.{View, nothing_seen}
use Rattle.trace_rules.specs.Seen.{seen_all}
use Rattle.trace_rules.specs.Laws.{Holds}
use Rattle.trace_rules.specs.Judge.{Clause, ShapeClause, Obeys, FailsFirst}
use Rattle.check_reader.specs.Told.{Fits, IsUsual}
use Rattle.check_verdict.specs.Verdict.{longest_line}
use Rattle.homa_plain.specs.Limits.{longest_input}

-- a line behind `read` bytes is the line of this entry, whose line feed the last line may lack, and is not too long
pub record Tells (read : ℕ) (line : List ℕ) (e : PlainEntry) : Type 0 where
  pub text : line_text e ≡ without_feed line ++ 10 ∷ []
  pub fits : Fits e
  pub usual : IsUsual e
  pub short : length (without_feed line) ≤ longest_line
  pub within : read + length line ≤ longest_input

-- these lines behind `read` bytes are those of these entries
abbrev pub AreTold : ℕ → List (List ℕ) → List PlainEntry → Type 0
AreTold read [] [] = Unit {0}
AreTold read [] (e ∷ es) = ⊥
AreTold read (line ∷ lines) [] = ⊥
AreTold read (line ∷ lines) (e ∷ es) = Tells read line e × AreTold (read + length line) lines es

-- how many bytes some lines have
abbrev pub bytes_in : List (List ℕ) → ℕ
bytes_in [] = 0
bytes_in (line ∷ lines) = length line + bytes_in lines

-- a text has so many lines, one at least, and they are those of entries that obey all laws
pub record IsTrace (bytes : List ℕ) (n : ℕ) : Type 0 where
  pub entries : List PlainEntry
  pub told : AreTold 0 (lines_of bytes) entries
  pub obeyed : Holds Obeys nothing_seen entries
  pub count : n ≡ length entries
  pub some : 0 < n

-- at a line behind `read` bytes of lines that said v this is the first clause that fails. The line is of no entry, and
-- hasn't the shape; or it is of an entry at which the clause fails first.
abbrev pub FailsAt : View → ℕ → List ℕ → Clause → Type 0
FailsAt v read line clause =
    (((e : PlainEntry) → ¬ Tells read line e) × (clause ≡ ShapeClause))
    ⊎ ((e : PlainEntry) × Tells read line e × FailsFirst v e clause)

-- line k is the first that fails: those before it are lines of entries that obey all laws
pub record IsFirstFailing (lines : List (List ℕ)) (k : ℕ) (clause : Clause) : Type 0 where
  pub before : List (List ℕ)
  pub line : List ℕ
  pub behind : List (List ℕ)
  pub parts : lines ≡ before ++ line ∷ behind
  pub number : k ≡ length before + 1
  pub entries : List PlainEntry
  pub told : AreTold 0 before entries
  pub obeyed : Holds Obeys nothing_seen entries
  pub fails : FailsAt (seen_all nothing_seen entries) (bytes_in before) line clause

-- a text without a line fails at its first line, which is missing
abbrev pub IsNoTrace : List ℕ → ℕ → Clause → Type 0
IsNoTrace bytes k clause = ((lines_of bytes ≡ []) × (k ≡ 1) × (clause ≡ ShapeClause)) ⊎ IsFirstFailing (lines_of bytes) k clause
