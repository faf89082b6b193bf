-- The bytes that a word spells.
use Rattle.std.proofs.Common.{◌≡◌, ◌<◌, ℕ, zero, suc, ◌+◌, ◌%◌, ◌==◌, ◌&&◌, Bool, true, false, if◌then◌else◌, Result, Ok, List, [], ◌∷◌, ◌++◌, codes}
use Rattle.std.proofs.Common.{bytes_eq, length, take, drop, set, refl, sym, ap, ◌∙◌, add-one, arith}
use Rattle.std.proofs.lemmas.List.{take_more_set}
use Rattle.std.proofs.lemmas.Slice.Eq.{bytes_eq-Decides}
use Rattle.hex.specs.Hex.{decode_of, decode_pairs}
use Rattle.homa_plain.specs.declared.fault.ScriptFault.{ScriptFault}
use Rattle.homa_plain.specs.Numbers.{number_of}
use Rattle.homa_plain.specs.Script.{counting, bytes_of_word, counted, number_up_to, most_counted, hex_bytes}

-- one counting byte more, at the end
pub counting-more : (i n : ℕ) → counting i (suc n) ≡ counting i n ++ (i + n) % 256 ∷ []
counting-more i zero = let same : i ≡ i + 0 = omega arith in ap (λ (k : ℕ). k % 256 ∷ []) same
counting-more i (suc n) =
    let same : suc i + n ≡ i + suc n = omega arith in
    ap (λ (xs : List ℕ). i % 256 ∷ xs) (counting-more (suc i) n ∙ ap (λ (k : ℕ). counting (suc i) n ++ k % 256 ∷ []) same)

-- one counting byte more is written
pub count_step : (out : List ℕ) (i : ℕ) → i < length out → take i out ≡ counting 0 i → take (i + 1) (set out i (i % 256)) ≡ counting 0 (i + 1)
count_step out i within so_far =
    let same : 0 + i ≡ i = omega arith in
    take_more_set out i (i % 256) within
    ∙ (ap (λ (xs : List ℕ). xs ++ i % 256 ∷ []) so_far
    ∙ (ap (λ (k : ℕ). counting 0 i ++ k % 256 ∷ []) (sym same) ∙ (sym (counting-more 0 i) ∙ ap (counting 0) (sym (add-one i)))))

-- a hyphen
pub spells_none : (word : List ℕ) → bytes_eq word (codes "-") ≡ true → bytes_of_word word ≡ Ok []
unfolding bytes_of_word
spells_none word e = rw ((bytes_eq-Decides word (codes "-")).0 e) refl

-- a star, and digits behind it
counted_by : (star : Bool) (a b : Result (List ℕ) ScriptFault) → (star && true) ≡ true → (if star then a else b) ≡ a
counted_by true a b e = refl
counted_by false a b e = absurd cc

pub spells_counted : (word digits : List ℕ) → bytes_eq (take 1 word) (42 ∷ []) ≡ true → digits ≡ drop 1 word
    → bytes_of_word word ≡ counted (number_up_to most_counted (number_of digits))
unfolding bytes_of_word
spells_counted [] digits star e = absurd cc
spells_counted (c ∷ cs) digits star e = rw e (counted_by (c == 42) _ _ star)

-- any other word
hex_by : (star hyphen : Bool) (a b c : Result (List ℕ) ScriptFault) → (star && true) ≡ false → hyphen ≡ false
    → (if star then a else if hyphen then b else c) ≡ c
hex_by false false a b c e f = refl
hex_by false true a b c e f = absurd cc
hex_by true hyphen a b c e f = absurd cc

pub spells_hex : (word : List ℕ) → bytes_eq word (codes "-") ≡ false → bytes_eq (take 1 word) (42 ∷ []) ≡ false
    → bytes_of_word word ≡ hex_bytes (decode_of word)
unfolding bytes_of_word decode_pairs
spells_hex [] hyphen star = refl
spells_hex (c ∷ cs) hyphen star = hex_by (c == 42) (bytes_eq (c ∷ cs) (codes "-")) _ _ _ star hyphen
