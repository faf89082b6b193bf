-- Bytes in lower-case hex, pair by pair.
use Rattle.std.specs.Prelude.{ℕ, ◌+◌, ◌-◌, ◌*◌, ◌%◌, ◌&&◌, Bool, nat_le, nat_lt, if◌then◌else◌, Option, None, Some, List, [], ◌∷◌, ◌++◌}
use Rattle.std.specs.Option.{option_map}
use Rattle.homa_plain.specs.Bytes.{◌>>=◌}

-- the value of a lower-case digit
abbrev pub digit_value : ℕ → Option ℕ
digit_value c =
    if nat_le 48 c && nat_le c 57 then Some (c - 48)
    else if nat_le 97 c && nat_le c 102 then Some (c - 87)
    else None

-- it is the value of a digit
abbrev pub is_value : ℕ → Bool
is_value v = nat_lt v 16

-- a value, and the others behind it
abbrev pub in_front : Option ℕ → Option (List ℕ) → Option (List ℕ)
in_front value values = value >>= λ v. option_map (λ vs. v ∷ vs) values

-- the values of lower-case digits
unfoldable pub values_of : List ℕ → Option (List ℕ)
values_of [] = Some []
values_of (digit ∷ digits) = in_front (digit_value digit) (values_of digits)

-- the bytes that pairs of values make
unfoldable pub joined : List ℕ → List ℕ
joined [] = []
joined (value ∷ []) = []
joined (high ∷ low ∷ rest) = (high * 16 % 256 + low) % 256 ∷ joined rest

-- the byte that two values make, and the others behind it
abbrev pub paired : Option ℕ → Option ℕ → Option (List ℕ) → Option (List ℕ)
paired high low rest = high >>= λ h. low >>= λ l. option_map (λ bytes. (h * 16 + l) ∷ bytes) rest

-- the bytes that pairs of lower-case digits spell
unfoldable pub lower_pairs : List ℕ → Option (List ℕ)
lower_pairs [] = Some []
lower_pairs (digit ∷ []) = None
lower_pairs (high ∷ low ∷ rest) = paired (digit_value high) (digit_value low) (lower_pairs rest)

-- these bytes, if the digits that spell them are some, and then what the rest spells
abbrev pub spelled : Bool → List ℕ → Option (List ℕ) → Option (List ℕ)
spelled are_digits front rest = if are_digits then option_map (λ bytes. front ++ bytes) rest else None
