-- Numbers in decimal digits.
use Rattle.std.specs.Char.{is_ascii_digit}
use Rattle.std.specs.Prelude.{ℕ, ◌+◌, ◌-◌, ◌*◌, ◌^◌, ◌==◌, nat_lt, if◌then◌else◌, Option, None, Some, List, [], ◌∷◌}

-- the value of digits that follow those of n
abbrev pub digits_value : ℕ → List ℕ → Option ℕ
digits_value n [] = Some n
digits_value n (c ∷ cs) = if is_ascii_digit c then digits_value (n * 10 + (c - 48)) cs else None

-- a number of 64 bits
abbrev pub in_64_bits : Option ℕ → Option ℕ
in_64_bits None = None
in_64_bits (Some n) = if nat_lt n (2 ^ 64) then Some n else None

-- the number that a word is: digits without a leading zero, but for 0 itself
abbrev pub number_of : List ℕ → Option ℕ
number_of [] = None
number_of (c ∷ []) = in_64_bits (digits_value 0 (c ∷ []))
number_of (c ∷ d ∷ cs) = if c == 48 then None else in_64_bits (digits_value 0 (c ∷ d ∷ cs))
