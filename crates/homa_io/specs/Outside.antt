-- What a source has left and a sink took, if they are observable, and when a count of faults rose.
use Rattle.std.specs.Prelude.{◌≡◌, ℕ, ◌+◌, ◌-◌, ◌^◌, ◌≤◌, min, Option, None, Some, List, [], ◌++◌}

-- the count rose, or stands at its last value
abbrev pub HasRisen : ℕ → ℕ → Type 0
HasRisen old new = min (old + 1) (2 ^ 64 - 1) ≤ new

-- what was left before these bytes were read
abbrev pub unread : List ℕ → Option (List ℕ) → Option (List ℕ)
unread bytes None = None
unread bytes (Some rest) = Some (bytes ++ rest)

-- what was taken, with these bytes at its end
abbrev pub appended : Option (List ℕ) → List ℕ → Option (List ℕ)
appended None bytes = None
appended (Some taken) bytes = Some (taken ++ bytes)

-- nothing is left, if the source is observable
abbrev pub IsAtEnd : Option (List ℕ) → Type 0
IsAtEnd None = Unit {0}
IsAtEnd (Some rest) = rest ≡ []

-- what was taken is the old and a prefix of these bytes, if the sink is observable
abbrev pub TookFront : Option (List ℕ) → Option (List ℕ) → List ℕ → Type 0
TookFront old new bytes = (front : List ℕ) × (rest : List ℕ) × (front ++ rest ≡ bytes) × (new ≡ appended old front)

-- what was taken is the old, and maybe more after it
abbrev pub Grows : Option (List ℕ) → Option (List ℕ) → Type 0
Grows old new = (more : List ℕ) × (new ≡ appended old more)
