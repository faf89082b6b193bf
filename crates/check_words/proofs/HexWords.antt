-- Bytes as hex words.
use Rattle.std.proofs.Common.{◌≡◌, ◌≢◌, ℕ, ◌%◌, ◌==◌, Bool, true, false, if◌then◌else◌, None, Some, Result, Err, List, [], ◌∷◌, length, refl, ◌∙◌}
use Rattle.std.specs.Char.{is_ascii_uppercase}
use Rattle.std.specs.List.{list_any}
use Rattle.std.specs.Result.{result_ok}
use Rattle.std.proofs.lemmas.Bool.{ne_eqb}
use Rattle.hex.specs.Hex.{decode_pairs}
use Rattle.hex.specs.declared.error.FromHexError.{FromHexError}
use Rattle.hex.specs.declared.error.FromHexError.TheVariants.{OddLength}
use Rattle.check_words.specs.Digits.{lower_pairs}
use Rattle.check_words.specs.Fields.{hex_of, is_hyphen}
use Rattle.check_words.proofs.DigitLaws.{pairs_same}

-- a word of pairs
even_by : (hyphen upper odd : Bool) (pairs : Result (List ℕ) FromHexError) → hyphen ≡ false → odd ≡ false
    → (if upper then None else result_ok pairs) ≡ (if hyphen then Some [] else if upper then None else result_ok (if odd then Err OddLength else pairs))
even_by false upper false pairs e f = refl
even_by false upper true pairs e f = absurd cc
even_by true upper odd pairs e f = absurd cc

pub hex_of-pairs : (word : List ℕ) → (length word == 0) ≡ false → is_hyphen word ≡ false → length word % 2 ≢ 1 → lower_pairs word ≡ hex_of word
unfolding hex_of
hex_of-pairs [] some hyphen even = absurd cc
hex_of-pairs (b ∷ bs) some hyphen even =
    pairs_same 0 (b ∷ bs) ∙ even_by (is_hyphen (b ∷ bs)) (list_any is_ascii_uppercase (b ∷ bs)) (length (b ∷ bs) % 2 == 1)
    (decode_pairs 0 (b ∷ bs)) hyphen (ne_eqb (length (b ∷ bs) % 2) 1 even)
