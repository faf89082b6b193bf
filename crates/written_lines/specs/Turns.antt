-- The two digits of bytes, and two texts by turns.
use Rattle.std.specs.Prelude.{ℕ, ◌/◌, ◌%◌, List, [], ◌∷◌, slice_index}
use Rattle.hex.specs.Hex.{lower_digits}

-- the first digit of a byte
abbrev pub high_digit : ℕ → ℕ
high_digit byte = slice_index lower_digits (byte / 16)

-- the second one
abbrev pub low_digit : ℕ → ℕ
low_digit byte = slice_index lower_digits (byte % 16)

-- two texts of one length, a byte of each by turns
unfoldable pub by_turns : List ℕ → List ℕ → List ℕ
by_turns (x ∷ xs) (y ∷ ys) = x ∷ y ∷ by_turns xs ys
by_turns [] ys = []
by_turns (x ∷ xs) [] = []
