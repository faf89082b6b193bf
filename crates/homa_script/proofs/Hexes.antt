-- Bytes that are printed in hex, as they are read.
use Rattle.std.proofs.Common.{◌≡◌, ◌<◌, ◌≤◌, ◌⊎◌, inl, inr, ℕ, ◌+◌, ◌*◌, ◌/◌, ◌%◌, suc, arith, true, false, Some, None, Ok, List, [], ◌∷◌, length}
use Rattle.std.proofs.Common.{slice_index, refl, sym, ap, ◌∙◌}
use Rattle.std.specs.Prelude.{◌==◌, nat_le}
use Rattle.std.proofs.lemmas.Bool.{cases_lt}
use Rattle.std.proofs.lemmas.Bool.Decides.{nat_tests}
use borrow.Author.Tests.{ne_eqb}
use Rattle.hex.specs.Hex.{encode_with, encode_lower, lower_digits, decode_of, hex_digit_value}
use Rattle.hex.proofs.HexLemmas.{IsDigits-lower_digits, decode_of-encode_lower, length-encode_with}
use Rattle.homa_plain.specs.Bytes.{IsBytes}
use Rattle.homa_plain.specs.Text.{hex_word}
use Rattle.homa_plain.specs.Script.{bytes_of_word, hex_bytes}
use Rattle.homa_script.proofs.Printed.{AllSeen, IsWord}

none_low : (c : ℕ) → c < 48 → hex_digit_value c ≡ None
none_low c h =
    let a : nat_le 65 c ≡ false = grind (arith, nat_tests) in
    let b : nat_le 97 c ≡ false = grind (arith, nat_tests) in
    let d : nat_le 48 c ≡ false = grind (arith, nat_tests) in
    rw (a, b, d) refl

none_high : (c : ℕ) → 102 < c → hex_digit_value c ≡ None
none_high c h =
    let a : nat_le 65 c ≡ true = grind (arith, nat_tests) in
    let b : nat_le c 70 ≡ false = grind (arith, nat_tests) in
    let d : nat_le 97 c ≡ true = grind (arith, nat_tests) in
    let e : nat_le c 102 ≡ false = grind (arith, nat_tests) in
    let f : nat_le 48 c ≡ true = grind (arith, nat_tests) in
    let g : nat_le c 57 ≡ false = grind (arith, nat_tests) in
    rw (a, b, d, e, f, g) refl

-- a digit is one of `0` to `f`
digit_seen : (c d : ℕ) → hex_digit_value c ≡ Some d → (47 < c) × (c < 103)
digit_seen c d e = (above (cases_lt c 48), below (cases_lt 102 c))
  where
    above : (c < 48) ⊎ (48 ≤ c) → 47 < c
    above (inl h) = absurd (cc (sym (none_low c h) ∙ e))
    above (inr h) = omega arith

    below : (102 < c) ⊎ (c ≤ 102) → c < 103
    below (inl h) = absurd (cc (sym (none_high c h) ∙ e))
    below (inr h) = omega arith

lower_seen : (d : ℕ) → d < 16 → (47 < slice_index lower_digits d) × (slice_index lower_digits d < 103)
lower_seen d h = digit_seen (slice_index lower_digits d) d (IsDigits-lower_digits d h)

all_seen : (bytes : List ℕ) → IsBytes bytes → AllSeen (encode_lower bytes)
unfolding encode_with
all_seen [] h = tt
all_seen (b ∷ bytes) h =
    let fits : b < 256 = h 0 in
    let high = lower_seen (b / 16) (omega arith) in
    let low = lower_seen (b % 16) (omega arith) in
    (omega (arith, high.0), omega (arith, high.1), (omega (arith, low.0), omega (arith, low.1), all_seen bytes (λ i. h (suc i))))

-- bytes are a word
pub word-hex : (bytes : List ℕ) → IsBytes bytes → IsWord (hex_word bytes)
word-hex [] h = record { some = omega arith; seen = (omega arith, omega arith, tt) }
word-hex (b ∷ bytes) h = record { some = omega (arith, length-encode_with lower_digits (b ∷ bytes)); seen = all_seen (b ∷ bytes) h }

-- with two digits for each at most
pub length-hex : (bytes : List ℕ) → length (hex_word bytes) ≤ 2 * length bytes + 1
length-hex [] = omega arith
length-hex (b ∷ bytes) = omega (arith, length-encode_with lower_digits (b ∷ bytes))

plain_by : (c d : ℕ) (rest : List ℕ) → 47 < c → bytes_of_word (c ∷ d ∷ rest) ≡ hex_bytes (decode_of (c ∷ d ∷ rest))
unfolding bytes_of_word
plain_by c d rest h =
    let star : (c == 42) ≡ false = ne_eqb c 42 (λ z. omega arith) in
    let hyphen : (c == 45) ≡ false = ne_eqb c 45 (λ z. omega arith) in
    rw (star, hyphen) refl

some_by : (b : ℕ) (bytes : List ℕ) → IsBytes (b ∷ bytes) → bytes_of_word (encode_lower (b ∷ bytes)) ≡ hex_bytes (decode_of (encode_lower (b ∷ bytes)))
unfolding encode_with
some_by b bytes h =
    let fits : b < 256 = h 0 in
    plain_by (slice_index lower_digits (b / 16)) (slice_index lower_digits (b % 16)) (encode_lower bytes) (lower_seen (b / 16) (omega arith)).0

-- and are read as themselves
pub bytes-hex : (bytes : List ℕ) → IsBytes bytes → bytes_of_word (hex_word bytes) ≡ Ok bytes
unfolding bytes_of_word
bytes-hex [] h = refl
bytes-hex (b ∷ bytes) h = some_by b bytes h ∙ ap hex_bytes (decode_of-encode_lower (b ∷ bytes) h)
