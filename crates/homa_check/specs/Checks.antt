-- A check of a text, line by line.
use Rattle.std.specs.Prelude.{◌≡◌, ◌⊎◌, ◌≤◌, ℕ, ◌+◌, ◌==◌, Bool, true, false, if◌then◌else◌, Option, Some, List, [], ◌∷◌, ◌++◌, length, Result, Ok, Err, codes}
use Rattle.std.specs.Fmt.{decimal}
use Rattle.homa_io.specs.Outside.{HasRisen, unread, IsAtEnd}
use Rattle.homa_plain.specs.Input.{lines_of, has_no_feed}
use Rattle.trace_rules.specs.View.{View, nothing_seen}
use Rattle.trace_rules.specs.Judge.{Clause, ShapeClause, OnceClause, ReturnedClause, HandedUpClause, FailsClause, GrantingClause}
use Rattle.homa_plain.specs.Text.{line_of_words}
use Rattle.text_lines.specs.Lines.{Reading}
use Rattle.check_verdict.specs.Verdict as plain
use Rattle.homa_check.specs.declared.text.Next.{Next}
use Rattle.homa_check.specs.declared.text.Next.TheVariants.{Taken, End, Fails}
use Rattle.check_lines.specs.declared.trace.Trace.{Trace}
use Rattle.homa_check.specs.declared.verdict.Verdict.{Verdict}
use Rattle.homa_check.specs.declared.verdict.Verdict.TheVariants.{Yes, No}
use Rattle.homa_check.specs.declared.verdict.CheckStop.{CheckStop}
use Rattle.homa_check.specs.declared.verdict.CheckStop.TheVariants.{Read, NoMemory}
use Rattle.homa_check.specs.Clauses.{clause_of}
use Rattle.check_lines.specs.Traces.{Follows}

-- a verdict, as the definitions have it
abbrev pub plain_verdict : Verdict → plain.Verdict
plain_verdict (Yes lines) = plain.Yes lines
plain_verdict (No line clause) = plain.No line (clause_of clause)

-- this verdict is yes
abbrev pub is_yes : Verdict → Bool
is_yes (Yes lines) = true
is_yes (No line clause) = false

-- a check stops because the source counted a fault
abbrev pub is_fault : CheckStop → Bool
is_fault (Read failed) = true
is_fault NoMemory = false

-- the result is a fault of the source
abbrev pub is_read : {A : Type 0} → Result A CheckStop → Bool
is_read (Ok answer) = false
is_read (Err stop) = is_fault stop

module _ {S A : Type 0} (left : S → Option (List ℕ)) (faults : S → ℕ) (is_same : S → S → Type 0) where
  -- The source was read up to some place. Its count of faults rose exactly if the result is a fault of it, and it is the same source.
  pub record HasReadOn (r : Result A CheckStop) (old new : S) : Type 0 where
    pub read_on : (came : List ℕ) × (left old ≡ unread came (left new))
    pub risen : is_read r ≡ true → HasRisen (faults old) (faults new)
    pub quiet : is_read r ≡ false → faults new ≡ faults old
    pub never_falls : faults old ≤ faults new
    pub same : is_same old new

-- the word of a clause in the line of a verdict
abbrev pub clause_word : Clause → List ℕ
clause_word ShapeClause = codes "shape"
clause_word OnceClause = codes "once"
clause_word ReturnedClause = codes "returned"
clause_word HandedUpClause = codes "handedup"
clause_word FailsClause = codes "fails"
clause_word GrantingClause = codes "granting"

-- the line of a verdict
abbrev pub verdict_text : plain.Verdict → List ℕ
verdict_text (plain.Yes lines) = line_of_words (codes "yes" ∷ decimal lines ∷ [])
verdict_text (plain.No line clause) = line_of_words (codes "no" ∷ decimal line ∷ clause_word clause ∷ [])

-- the verdict if no line is left, after lines with the view v
abbrev pub verdict_at_end : View → plain.Verdict
verdict_at_end v = if v.place == 0 then plain.No 1 ShapeClause else plain.Yes v.place

-- the verdict on the lines that are left, after lines with the view v
abbrev pub verdict_left : View → ℕ → List (List ℕ) → plain.Verdict
verdict_left v read [] = verdict_at_end v
verdict_left v read (line ∷ lines) = plain.verdict_from v read (line ∷ lines)

-- the verdict on what a reader of lines has pending, and these bytes
abbrev pub verdict_next : View → Reading → List ℕ → plain.Verdict
verdict_next v r bytes = verdict_left v r.read (lines_of (r.pending ++ bytes))

-- A reader of lines took the bytes of a line, and counts the line; or, if `over` holds, all bytes up to the first one past its limit.
-- The other bytes that arrived are pending.
pub record TookLine (left left_then : Option (List ℕ)) (old new : Reading) (over : Type 0) : Type 0 where
  pub came : List ℕ
  pub source : left ≡ unread came left_then
  pub taken : List ℕ
  pub bytes : old.pending ++ came ≡ taken ++ new.pending
  pub count : (new.read ≡ old.read + length taken) ⊎ (over × (old.read + length taken ≡ old.limit + 1))

-- A reader of lines took the bytes of all lines so far, and counts the lines; the other bytes that arrived are pending.
pub record HasTaken (left left_then : Option (List ℕ)) (r : Reading) : Type 0 where
  pub came : List ℕ
  pub source : left ≡ unread came left_then
  pub taken : List ℕ
  pub bytes : came ≡ taken ++ r.pending
  pub count : r.read ≡ length taken

-- Nothing was read after this line: the bytes up to its end were taken, or all up to the first one past the limit.
-- The other bytes that arrived are pending.
pub record IsUpTo (line : ℕ) (left left_then : Option (List ℕ)) (r : Reading) : Type 0 where
  pub came : List ℕ
  pub source : left ≡ unread came left_then
  pub taken : List ℕ
  pub bytes : came ≡ taken ++ r.pending
  pub count : (r.read ≡ length taken) ⊎ (length taken ≡ r.limit + 1)
  pub number : r.number ≡ line

-- Whole lines of these bytes were taken, with the view v, and some bytes are pending; after a last line without its line feed nothing is left.
pub record IsSoFar (bytes : List ℕ) (left : Option (List ℕ)) (r : Reading) (v : View) : Type 0 where
  pub lines : List ℕ
  pub rest : List ℕ
  pub split : bytes ≡ (lines ++ r.pending) ++ rest
  pub has_left : left ≡ Some rest
  pub fold : (more : List (List ℕ)) → plain.verdict_from nothing_seen 0 (lines_of lines ++ more) ≡ plain.verdict_from v r.read more
  pub joins : ((more : List ℕ) → lines_of (lines ++ more) ≡ lines_of lines ++ lines_of more) ⊎ ((r.pending ≡ []) × (rest ≡ []))

-- Reading failed, perhaps within a line: the lines that arrived whole obey all laws.
pub record IsCutShort (bytes : List ℕ) (left : Option (List ℕ)) : Type 0 where
  pub lines : List ℕ
  pub front : List ℕ
  pub rest : List ℕ
  pub split : bytes ≡ (lines ++ front) ++ rest
  pub has_left : left ≡ Some rest
  pub one_line : has_no_feed front ≡ true
  pub count : ℕ
  pub obeyed : plain.verdict_from nothing_seen 0 (lines_of lines) ≡ plain.Yes count

-- a line was taken: the verdict is the one on the lines after it
pub record IsTaken (v : View) (old new : Reading) (left left_then : Option (List ℕ)) (t : Trace) : Type 0 where
  pub w : View
  pub follows : Follows w t
  pub place : w.place ≡ v.place + 1
  pub due : (bytes : List ℕ) → left ≡ Some bytes → (rest : List ℕ) × (left_then ≡ Some rest) × (verdict_next v old bytes ≡ verdict_next w new rest)
  pub so_far : (bytes : List ℕ) → IsSoFar bytes left old v → IsSoFar bytes left_then new w

-- what became of the next line, after lines with the view v
abbrev pub IsNext : View → Reading → Reading → Option (List ℕ) → Option (List ℕ) → Trace → Next → Type 0
IsNext v old new left left_then t Taken = IsTaken v old new left left_then t
IsNext v old new left left_then t End = ((bytes : List ℕ) → left ≡ Some bytes → verdict_next v old bytes ≡ verdict_at_end v) × IsAtEnd left_then × Follows v t
IsNext v old new left left_then t (Fails clause) = (bytes : List ℕ) → left ≡ Some bytes → verdict_next v old bytes ≡ plain.No (v.place + 1) (clause_of clause)
