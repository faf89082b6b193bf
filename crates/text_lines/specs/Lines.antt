-- What a reader of lines has, and what the next line is.
use Rattle.std.specs.Prelude.{◌≡◌, ℕ, ◌+◌, ◌<◌, ◌≤◌, ◌⊎◌, true, List, [], ◌++◌, length}
use Rattle.homa_plain.specs.Input.{without_feed, has_no_feed, ends_in_feed}
use Rattle.text_lines.specs.Input.{pending_of}
use Rattle.text_lines.specs.LineRoom.{kept}
use Rattle.text_lines.specs.declared.lines.Lines.{Lines}
use Rattle.text_lines.specs.declared.lines.LineGot.{LineGot}
use Rattle.text_lines.specs.declared.lines.LineGot.TheVariants.{Line, Long, Over, End}

-- the bytes that it took and that belong to no line yet, the last line without its feed, how many bytes and lines came so far, and its two limits
pub record Reading : Type 0 where
  pub pending : List ℕ
  pub line : List ℕ
  pub read : ℕ
  pub number : ℕ
  pub limit : ℕ
  pub longest : ℕ

-- what a reader of lines has
abbrev pub reading : Lines → Reading
reading lines =
    record { pending = pending_of lines.input; line = kept lines.line; read = lines.read; number = lines.number; limit = lines.limit; longest = lines.longest }

-- a line, with its feed if it has one, was taken off what was pending and what came, and was counted; one without a feed is the last, and nothing is left
pub record TakesLine (old new : Reading) (came line : List ℕ) (end : Type 0) : Type 0 where
  pub bytes : old.pending ++ came ≡ line ++ new.pending
  pub whole : (ends_in_feed line ≡ true) ⊎ ((has_no_feed line ≡ true) × (0 < length line) × (new.pending ≡ []) × end)
  pub read : new.read ≡ old.read + length line
  pub within : new.read ≤ old.limit

-- the first bytes of a line, of which the last is one past the limit
pub record IsOver (old new : Reading) (came front : List ℕ) : Type 0 where
  pub bytes : old.pending ++ came ≡ front ++ new.pending
  pub one_line : (ends_in_feed front ≡ true) ⊎ (has_no_feed front ≡ true)
  pub count : old.read + length front ≡ old.limit + 1

-- a line that isn't too long, which is kept
pub record IsLine (old new : Reading) (came line : List ℕ) (end : Type 0) : Type 0 where
  pub taken : TakesLine old new came line end
  pub short : length (without_feed line) ≤ old.longest
  pub kept : new.line ≡ without_feed line

-- a line that is too long
pub record IsLong (old new : Reading) (came line : List ℕ) (end : Type 0) : Type 0 where
  pub taken : TakesLine old new came line end
  pub long : old.longest < length (without_feed line)

-- no byte of a line is left
pub record IsEnd (old new : Reading) (came : List ℕ) (end : Type 0) : Type 0 where
  pub none_came : old.pending ++ came ≡ []
  pub none_pending : new.pending ≡ []
  pub read : new.read ≡ old.read
  pub at_end : end

-- what the next line is, where these bytes came from the source, and `end` says that it has no more
abbrev pub IsNext : Reading → Reading → List ℕ → Type 0 → LineGot → Type 0
IsNext old new came end Line = (line : List ℕ) × IsLine old new came line end
IsNext old new came end Long = (line : List ℕ) × IsLong old new came line end
IsNext old new came end Over = (front : List ℕ) × IsOver old new came front
IsNext old new came end End = IsEnd old new came end
