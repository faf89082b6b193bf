-- The verdict on a text that is to be a trace: its lines are judged one after the other, up to the first that breaks a law.
use Rattle.std.specs.Prelude.{ℕ, ◌+◌, ◌||◌, nat_lt, if◌then◌else◌, Option, None, Some, List, [], ◌∷◌, length}
use Rattle.homa_plain.specs.Entries.{PlainEntry}
use Rattle.homa_plain.specs.Input.{lines_of, without_feed}
use Rattle.trace_rules.specs.View.{View, nothing_seen}
use Rattle.trace_rules.specs.Seen.{seen}
use Rattle.trace_rules.specs.Judge.{Clause, ShapeClause, judged}
use Rattle.check_reader.specs.Forms.{entry_of}
use Rattle.homa_plain.specs.Limits.{longest_input}

-- the most bytes of a line, its line feed not counted
abbrev pub longest_line : ℕ
longest_line = 4100000

-- what a line behind `read` bytes stands for: the entry whose line it is, unless it is too long, or the input is up to its end
unfoldable pub stands_for : ℕ → List ℕ → Option PlainEntry
stands_for read line =
    if nat_lt longest_input (read + length line) || nat_lt longest_line (length (without_feed line)) then None else entry_of (without_feed line)

-- the first clause that fails at a line; one that stands for nothing hasn't the shape
abbrev pub judged_text : View → Option PlainEntry → Option Clause
judged_text v None = Some ShapeClause
judged_text v (Some line) = judged v line

-- what the lines say, with one more line
abbrev pub seen_text : View → Option PlainEntry → View
seen_text v None = v
seen_text v (Some line) = seen v line

-- all lines obey all laws, and how many they are; or the first line that doesn't, and the first clause that fails there
pub data Verdict : Type 0 where
  Yes : (lines : ℕ) → Verdict
  No : (line : ℕ) (clause : Clause) → Verdict

-- a line with the clause that fails there; where none does, the verdict on what stands behind it
abbrev pub no_or : ℕ → Option Clause → Verdict → Verdict
no_or k None rest = rest
no_or k (Some clause) rest = No k clause

-- the verdict on these lines, behind `read` bytes of lines that said v
abbrev pub verdict_from : View → ℕ → List (List ℕ) → Verdict
verdict_from v read [] = Yes v.place
verdict_from v read (line ∷ lines) =
    let stands = stands_for read line in
    no_or (v.place + 1) (judged_text v stands) (verdict_from (seen_text v stands) (read + length line) lines)

-- the verdict on these lines; where there is none, the first line is missing
abbrev pub verdict_on : List (List ℕ) → Verdict
verdict_on [] = No 1 ShapeClause
verdict_on (line ∷ lines) = verdict_from nothing_seen 0 (line ∷ lines)

-- the verdict on a text, from its bytes
abbrev pub verdict_of : List ℕ → Verdict
verdict_of bytes = verdict_on (lines_of bytes)
