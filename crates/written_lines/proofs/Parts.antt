-- The digits of bytes, part by part.
use Rattle.std.proofs.Common.{◌≡◌, ◌<◌, ◌≤◌, ℕ, ◌+◌, ◌*◌, arith, List, [], ◌∷◌, ◌++◌}
use Rattle.std.proofs.Common.{length, map, take, drop, slice_index, slice_set, refl, sym, ap, ◌∙◌, append_assoc}
use Rattle.std.proofs.lemmas.List.{append-nil, drop_all, drop_more, map_more, take_all, take_at, take_more_set, take-take, length-take-le}
use Rattle.hex.specs.Hex.{encode_with, lower_digits, encode_lower}
use Rattle.hex.proofs.HexLemmas.{length-encode_with}
use Rattle.hex.proofs.Pairs.{take-two_writes}
use Rattle.written_lines.specs.Turns.{by_turns, high_digit, low_digit}
use Rattle.written_lines.proofs.Texts.{encode_lower-more, encode_lower-parts}

-- one byte more
pub mapped_more : (f : ℕ → ℕ) (bytes out : List ℕ) (i y : ℕ) → i < length bytes → i < length out → y ≡ f (slice_index bytes i)
    → take i out ≡ map f (take i bytes) → take (i + 1) (slice_set out i y) ≡ map f (take (i + 1) bytes)
mapped_more f bytes out i y within fits is so_far =
    take_more_set out i y fits ∙ ((λ j. so_far j ++ is j ∷ []) ∙ sym (map_more f bytes i 0 within))

-- all of them
pub mapped_all : (f : ℕ → ℕ) (bytes out : List ℕ) (i : ℕ) → length bytes ≤ i → length out ≤ i → take i out ≡ map f (take i bytes) → out ≡ map f bytes
mapped_all f bytes out i past behind so_far = sym (take_all i out behind) ∙ (so_far ∙ ap (map f) (take_all i bytes past))

turns_of : (x y : ℕ) (xs ys : List ℕ) → by_turns (x ∷ xs) (y ∷ ys) ≡ x ∷ y ∷ by_turns xs ys
unfolding by_turns
turns_of x y xs ys = refl

turns_nil : (ys : List ℕ) → by_turns [] ys ≡ []
unfolding by_turns
turns_nil ys = refl

-- one byte more of each
pub turns_more : (high low out : List ℕ) (i : ℕ) → i < length high → length low ≡ length high → length out ≡ 2 * length high
    → take (2 * i) out ++ by_turns (drop i high) (drop i low) ≡ by_turns high low
    → take (2 * (i + 1)) (slice_set (slice_set out (2 * i) (slice_index high i)) (2 * i + 1) (slice_index low i)) ++ by_turns (drop (i + 1) high)
    (drop (i + 1) low) ≡ by_turns high low
turns_more high low out i within same fits so_far =
    let two : 2 * (i + 1) ≡ 2 * i + 2 = omega arith in
    let x = slice_index high i in
    let y = slice_index low i in
    let rest = by_turns (drop (i + 1) high) (drop (i + 1) low) in
    (λ j. take (two j) (slice_set (slice_set out (2 * i) x) (2 * i + 1) y) ++ rest)
    ∙ (ap (λ (xs : List ℕ). xs ++ rest) (take-two_writes out (2 * i) x y (omega arith))
    ∙ (append_assoc (take (2 * i) out) (x ∷ y ∷ []) rest
    ∙ (ap (λ (xs : List ℕ). take (2 * i) out ++ xs)
    (sym (turns_of x y (drop (i + 1) high) (drop (i + 1) low)) ∙ (λ j. by_turns (sym (drop_more high i 0 within) j) (sym (drop_more low i 0 (omega arith)) j)))
    ∙ so_far)))

-- all of them
pub turns_all : (high low out : List ℕ) (i : ℕ) → length high ≤ i → length out ≡ 2 * length high
    → take (2 * i) out ++ by_turns (drop i high) (drop i low) ≡ by_turns high low → out ≡ by_turns high low
turns_all high low out i past fits so_far =
    sym (append-nil out)
    ∙ ((λ j. sym (take_all (2 * i) out (omega arith)) j ++ sym
    (ap (λ (xs : List ℕ). by_turns xs (drop i low)) (drop_all i high past) ∙ turns_nil (drop i low)) j)
    ∙ so_far)

-- the digits of each byte by turns are those of the bytes
pub turns_encoded : (bytes : List ℕ) → by_turns (map high_digit bytes) (map low_digit bytes) ≡ encode_lower bytes
unfolding by_turns encode_with
turns_encoded [] = refl
turns_encoded (b ∷ bytes) = ap (λ (xs : List ℕ). high_digit b ∷ low_digit b ∷ xs) (turns_encoded bytes)

-- the digits of the first bytes stand first
encoded_front : (xs : List ℕ) (k : ℕ) → k ≤ length xs → take (2 * k) (encode_lower xs) ≡ encode_lower (take k xs)
encoded_front xs k fits =
    let len : length (encode_lower (take k xs)) ≡ 2 * k = length-encode_with lower_digits (take k xs) ∙ ap (λ (n : ℕ). 2 * n) (length-take-le k xs fits) in
    ap (λ (ds : List ℕ). take (2 * k) ds) (sym (encode_lower-parts xs k)) ∙ take_at (encode_lower (take k xs)) (encode_lower (drop k xs)) (2 * k) len

-- the digits of the bytes before one place, and then of a part that begins there or before it
pub part_over : (bytes out ys : List ℕ) (done from n : ℕ) → done ≤ length bytes → from ≤ done → ys ≡ encode_lower (take n (drop from bytes))
    → take (2 * done) out ≡ encode_lower (take done bytes) → take (2 * from) out ++ ys ≡ encode_lower (take (from + n) bytes)
part_over bytes out ys done from n within before are so_far =
    let front : take (2 * from) out ≡ encode_lower (take from bytes) =
    sym (take-take (2 * from) (2 * done) out (omega arith))
    ∙ (ap (λ (ds : List ℕ). take (2 * from) ds) so_far
    ∙ (encoded_front (take done bytes) from (omega (arith, length-take-le done bytes within))
    ∙ ap encode_lower (take-take from done bytes before))) in
    (λ j. front j ++ are j) ∙ encode_lower-more bytes from n
