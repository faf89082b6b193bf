-- Bytes of a datagram, and readers of them. A reader returns the value at the start of the bytes and what follows it,
-- or None where they begin with no such value.
use Rattle.std.specs.Prelude.{ℕ, zero, suc, ◌<◌, nat_lt, if◌then◌else◌, Option, None, Some, List, [], ◌∷◌, ◌++◌, length, get_or, take, drop}
use Rattle.std.specs.Int.{Width, w32, byte_len, to_be_bytes, from_be_bytes}

-- each is a byte
abbrev pub IsBytes : List ℕ → Type 0
IsBytes bytes = (i : ℕ) → get_or bytes i 0 < 256

-- what a step that may answer None is followed by
infixl 10 ◌>>=◌
abbrev pub ◌>>=◌ : {A B : Type 0} → Option A → (A → Option B) → Option B
None >>= f = None
(Some x) >>= f = f x

-- a byte
abbrev pub byte_at : List ℕ → Option (ℕ × List ℕ)
byte_at [] = None
byte_at (b ∷ rest) = Some (b, rest)

-- a number of this many bytes, the highest of them first
unfoldable pub number_at : Width → List ℕ → Option (ℕ × List ℕ)
number_at w bytes =
    if nat_lt (length bytes) (byte_len w) then None else Some (from_be_bytes w (take (byte_len w) bytes), drop (byte_len w) bytes)

-- two numbers of four bytes, as they are written and read
abbrev pub two : ℕ × ℕ → List ℕ
two pair = to_be_bytes w32 pair.0 ++ to_be_bytes w32 pair.1

-- two numbers of four bytes are read
unfoldable pub two_at : List ℕ → Option ((ℕ × ℕ) × List ℕ)
two_at bytes = do
  first ← number_at w32 bytes
  second ← number_at w32 first.1
  Some ((first.0, second.0), second.1)

-- so many values, one after the other
unfoldable pub times : {A : Type 0} → (List ℕ → Option (A × List ℕ)) → ℕ → List ℕ → Option (List A × List ℕ)
times one zero bytes = Some ([], bytes)
times one (suc n) bytes = do
  first ← one bytes
  others ← times one n first.1
  Some (first.0 ∷ others.0, others.1)
