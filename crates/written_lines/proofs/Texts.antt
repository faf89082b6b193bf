-- The texts of bytes, words and lines, part by part.
use Rattle.std.proofs.Common.{◌≡◌, ◌<◌, ◌≤◌, ℕ, ◌+◌, ◌-◌, ◌*◌, ◌/◌, ◌%◌, decimal, suc, arith, List, []}
use Rattle.std.proofs.Common.{◌∷◌, ◌++◌, length, map, take, drop, get_or, refl, sym, ap, ◌∙◌, append_assoc}
use Rattle.std.specs.List.{flat_map, join_with_byte}
use Rattle.std.proofs.lemmas.List.{take_more, take_rest, take-append-drop, append-nil}
use Rattle.std.proofs.lemmas.Fmt.{decimal_digit, decimal_step}
use Rattle.std.proofs.lemmas.Grind.{flat_map-append}
use Rattle.std.proofs.Math.Seq.{take-add, split_at}
use Rattle.hex.specs.Hex.{encode_with, lower_digits, encode_lower}
use Rattle.hex.proofs.HexLemmas.{length-encode_with}
use Rattle.homa_plain.specs.Text.{line_of_words}
use Rattle.written_lines.specs.declared.written.Word.{Word}
use Rattle.written_lines.specs.Written.{word_text, spaced_word}

encode_with-append : (t xs ys : List ℕ) → encode_with t (xs ++ ys) ≡ encode_with t xs ++ encode_with t ys
unfolding encode_with
encode_with-append t [] ys = refl
encode_with-append t (x ∷ xs) ys = simp (encode_with-append t xs ys)

-- a part that is added behind the parts so far
pub part_on : (i j old d e all : List ℕ) → i ≡ old ++ d → j ≡ i ++ e → d ++ e ≡ all → j ≡ old ++ all
part_on i j old d e all f g h = g ∙ (ap (λ (l : List ℕ). l ++ e) f ∙ (append_assoc old d e ∙ ap (λ (l : List ℕ). old ++ l) h))

-- a byte has two digits
pub two_digits_each : (bytes : List ℕ) → length (encode_lower bytes) ≡ 2 * length bytes
two_digits_each bytes = length-encode_with lower_digits bytes

-- no bytes have no digits
pub encode_lower-nil : encode_lower [] ≡ []
unfolding encode_with
encode_lower-nil = refl

-- the digits of the first bytes, and then of n more
pub encode_lower-more : (xs : List ℕ) (done n : ℕ) → encode_lower (take done xs) ++ encode_lower (take n (drop done xs)) ≡ encode_lower (take (done + n) xs)
encode_lower-more xs done n = sym (encode_with-append lower_digits (take done xs) (take n (drop done xs))) ∙ ap encode_lower (sym (take-add done n xs))

-- and then of the others
pub encode_lower-all : (xs : List ℕ) (done n : ℕ)
    → encode_lower (take done xs) ++ (encode_lower (take n (drop done xs)) ++ encode_lower (drop n (drop done xs))) ≡ encode_lower xs
encode_lower-all xs done n =
    ap (λ (ys : List ℕ). encode_lower (take done xs) ++ ys)
    (sym (encode_with-append lower_digits (take n (drop done xs)) (drop n (drop done xs))) ∙ ap encode_lower (take-append-drop n (drop done xs)))
    ∙ (sym (encode_with-append lower_digits (take done xs) (drop done xs)) ∙ ap encode_lower (take-append-drop done xs))

-- the digits of the first n bytes and of the others
pub encode_lower-parts : (xs : List ℕ) (n : ℕ) → encode_lower (take n xs) ++ encode_lower (drop n xs) ≡ encode_lower xs
encode_lower-parts xs n = sym (encode_with-append lower_digits (take n xs) (drop n xs)) ∙ ap encode_lower (take-append-drop n xs)

-- the part of n bytes from one place on
pub part_length : (at n : ℕ) → at + n - at ≡ n
part_length at n = omega arith

-- the words so far, the next one and the others
pub flat_map-split : {X : Type 0} (f : X → List ℕ) (xs : List X) (i : ℕ) (d : X) → i < length xs
    → flat_map f (take i xs) ++ (f (get_or xs i d) ++ flat_map f (drop (suc i) xs)) ≡ flat_map f xs
flat_map-split {X} f xs i d h =
    sym (ap (λ (ys : List X). flat_map f ys) (split_at xs i d h) ∙ flat_map-append f (take i xs) (get_or xs i d ∷ drop (suc i) xs))

-- the words so far and the next one
pub flat_map-more : {X : Type 0} (f : X → List ℕ) (xs : List X) (i : ℕ) (d : X) → i < length xs
    → flat_map f (take i xs) ++ f (get_or xs i d) ≡ flat_map f (take (i + 1) xs)
flat_map-more {X} f xs i d h =
    sym (ap (λ (ys : List X). flat_map f ys) (take_more xs i d h)
    ∙ (flat_map-append f (take i xs) (get_or xs i d ∷ []) ∙ ap (λ (ys : List ℕ). flat_map f (take i xs) ++ ys) (append-nil (f (get_or xs i d)))))

join : (w : List ℕ) (ws : List Word) → w ++ flat_map spaced_word ws ≡ join_with_byte 32 (w ∷ map word_text ws)
join w [] = append-nil w
join w (v ∷ vs) = ap (λ (zs : List ℕ). w ++ (32 ∷ zs)) (join (word_text v) vs)

-- a word, words behind it with a space before each, and a line feed
pub line_of_words-spaced : (w : List ℕ) (ws : List Word) → (w ++ flat_map spaced_word ws) ++ 10 ∷ [] ≡ line_of_words (w ∷ map word_text ws)
line_of_words-spaced w ws = ap (λ (zs : List ℕ). zs ++ 10 ∷ []) (join w ws)

-- the same, grouped from its end
pub line_of_words-parts : (w : List ℕ) (ws : List Word) → w ++ (flat_map spaced_word ws ++ 10 ∷ []) ≡ line_of_words (w ∷ map word_text ws)
line_of_words-parts w ws = sym (append_assoc w (flat_map spaced_word ws) (10 ∷ [])) ∙ line_of_words-spaced w ws

-- words by their first
pub first_of : {X : Type 0} (xs : List X) (d : X) → 1 ≤ length xs → get_or xs 0 d ∷ take (length xs - 1) (drop 1 xs) ≡ xs
first_of [] d h = absurd (omega arith)
first_of (x ∷ xs) d h = ap (λ ys. x ∷ ys) (take_rest (x ∷ xs) 1)

-- a number of one digit
pub one_digit : (n : ℕ) → n < 10 → decimal n ≡ (48 + n) ∷ []
one_digit n small = decimal_digit n small

-- and of two
pub two_digits : (n : ℕ) → 10 ≤ n → n < 100 → decimal n ≡ (48 + n / 10) ∷ (48 + n % 10) ∷ []
two_digits n some small = decimal_step n some (omega arith) ∙ ap (λ (ds : List ℕ). ds ++ (48 + n % 10) ∷ []) (decimal_digit (n / 10) (omega arith))
