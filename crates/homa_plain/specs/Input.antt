-- The lines of an input, and their words.
use Rattle.std.specs.Prelude.{ℕ, Bool, true, false, ◌==◌, not, if◌then◌else◌, List, [], ◌∷◌, filter, length}
use Rattle.std.specs.List.{slice_split}

-- a byte before the first line
abbrev pub onto_first_line : ℕ → List (List ℕ) → List (List ℕ)
onto_first_line b [] = (b ∷ []) ∷ []
onto_first_line b (line ∷ lines) = (b ∷ line) ∷ lines

-- the lines of an input, each with its line feed; the last one may lack it
abbrev pub lines_of : List ℕ → List (List ℕ)
lines_of [] = []
lines_of (b ∷ bytes) = if b == 10 then (10 ∷ []) ∷ lines_of bytes else onto_first_line b (lines_of bytes)

-- a line without its line feed
abbrev pub without_feed : List ℕ → List ℕ
without_feed [] = []
without_feed (b ∷ bytes) = if b == 10 then [] else b ∷ without_feed bytes

-- no line feed is in it
abbrev pub has_no_feed : List ℕ → Bool
has_no_feed [] = true
has_no_feed (b ∷ bytes) = if b == 10 then false else has_no_feed bytes

-- one line feed is in it, at its end
abbrev pub ends_in_feed : List ℕ → Bool
ends_in_feed [] = false
ends_in_feed (b ∷ []) = b == 10
ends_in_feed (b ∷ c ∷ bytes) = if b == 10 then false else ends_in_feed (c ∷ bytes)

-- there is a byte in it
abbrev pub has_bytes : List ℕ → Bool
has_bytes word = not (length word == 0)

-- the words of a line: what stands between its spaces
abbrev pub words_of : List ℕ → List (List ℕ)
words_of line = filter has_bytes (slice_split (λ b. b == 32) line)
