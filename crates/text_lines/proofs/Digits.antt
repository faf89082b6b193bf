-- The value of digits, one after another.
use Rattle.std.proofs.Common.{◌≡◌, ◌<◌, ◌≤◌, ℕ, ◌+◌, ◌-◌, ◌*◌, ◌^◌, arith, Bool, true, false, None, Some, List, [], ◌∷◌, length, drop, get_or, refl}
use Rattle.std.proofs.Common.{ap, drop-cons, add-one}
use Rattle.std.specs.Prelude.{nat_lt, if◌then◌else◌}
use Rattle.std.specs.Char.{is_ascii_digit}
use Rattle.std.proofs.lemmas.Bool.Decides.{nat_tests}
use Rattle.std.proofs.lemmas.List.{drop_all}
use Rattle.homa_plain.specs.Numbers.{digits_value, in_64_bits}

-- the rest of a word, by its first byte
cut : (word : List ℕ) (i : ℕ) → i < length word → drop i word ≡ get_or word i 0 ∷ drop (i + 1) word
cut word i within = rw add-one (drop-cons word i 0 within)

in_bits_by : (n : ℕ) (t : Bool) → nat_lt n (2 ^ 64) ≡ t → n < 2 ^ 64 → (if t then Some n else None) ≡ Some n
in_bits_by n true e h = refl
in_bits_by n false e h = absurd (grind (arith, nat_tests))

-- a number that has 64 bits
pub in_64_bits-small : (n : ℕ) → n < 2 ^ 64 → in_64_bits (Some n) ≡ Some n
in_64_bits-small n h = in_bits_by n (nat_lt n (2 ^ 64)) refl h

none_by : (n : ℕ) (t : Bool) → nat_lt n (2 ^ 64) ≡ t → 2 ^ 64 ≤ n → (if t then Some n else None) ≡ None
none_by n true e h = absurd (grind (arith, nat_tests))
none_by n false e h = refl

more_by : (t : Bool) (n : ℕ) (cs : List ℕ) → in_64_bits (digits_value n cs) ≡ None → in_64_bits (if t then digits_value n cs else None) ≡ None
more_by true n cs h = h
more_by false n cs h = refl

-- a number that has more stays so, whatever digits follow
pub in_64_bits-large : (n : ℕ) (cs : List ℕ) → 2 ^ 64 ≤ n → in_64_bits (digits_value n cs) ≡ None
in_64_bits-large n [] h = none_by n (nat_lt n (2 ^ 64)) refl h
in_64_bits-large n (c ∷ cs) h = more_by (is_ascii_digit c) (n * 10 + (c - 48)) cs (in_64_bits-large (n * 10 + (c - 48)) cs (omega arith))

-- one digit more
pub digits_value-digit : (word : List ℕ) (i n : ℕ) → i < length word → is_ascii_digit (get_or word i 0) ≡ true
    → digits_value n (drop i word) ≡ digits_value (n * 10 + (get_or word i 0 - 48)) (drop (i + 1) word)
digits_value-digit word i n h t =
    rw (cut word i h) (ap (λ (b : Bool). if b then digits_value (n * 10 + (get_or word i 0 - 48)) (drop (i + 1) word) else None) t)

-- a byte that is no digit
pub digits_value-other : (word : List ℕ) (i n : ℕ) → i < length word → is_ascii_digit (get_or word i 0) ≡ false → digits_value n (drop i word) ≡ None
digits_value-other word i n h t =
    rw (cut word i h) (ap (λ (b : Bool). if b then digits_value (n * 10 + (get_or word i 0 - 48)) (drop (i + 1) word) else None) t)

-- no byte more
pub digits_value-end : (word : List ℕ) (i n : ℕ) → length word ≤ i → digits_value n (drop i word) ≡ Some n
digits_value-end word i n h = ap (λ (xs : List ℕ). digits_value n xs) (drop_all i word h)
