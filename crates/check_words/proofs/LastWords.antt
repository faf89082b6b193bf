-- Hex that is the last word: it can be read without a look for the next separator.
use Rattle.std.proofs.Common.{◌≡◌, ℕ, ◌==◌, false, Option, None, Some, List, [], ◌∷◌, slice_index, refl, ap, ◌∙◌, subst, arith}
use Rattle.std.specs.List.{join_with_byte}
use Rattle.std.proofs.lemmas.List.Splits.{join_with_byte-slice_split}
use Rattle.hex.specs.Hex.{lower_digits}
use Rattle.homa_plain.specs.Text.{hex_word}
use Rattle.check_words.specs.Fields.{hex_of, hex_at, parts, whole, word_at}
use Rattle.check_words.specs.FieldsLeft.{byte_of}
use Rattle.check_words.specs.declared.fields.Separator.{Separator}
use Rattle.check_words.specs.declared.fields.Separator.TheVariants.{Space, Dot, Arrow}
use Rattle.check_words.proofs.NumberWords.{HasNo}
use Rattle.check_words.proofs.Readers.{parts-joined}
use Rattle.check_words.proofs.HexLaws.{none_at, none_passes, reads_hex}

-- no separator stands in hex
no_digit : (separator : Separator) (k : ℕ) → (slice_index lower_digits k == byte_of separator) ≡ false
no_digit Space k = none_at (λ c. c == 32) refl lower_digits refl k
no_digit Dot k = none_at (λ c. c == 46) refl lower_digits refl k
no_digit Arrow k = none_at (λ c. c == 62) refl lower_digits refl k

no_separator : (separator : Separator) (bytes : List ℕ) → HasNo (byte_of separator) (hex_word bytes)
no_separator Space [] = refl
no_separator Dot [] = refl
no_separator Arrow [] = refl
no_separator separator (b ∷ bytes) = none_passes (λ c. c == byte_of separator) (no_digit separator) (b ∷ bytes)

-- a word stands behind it
none_behind : (read : Option (List ℕ)) (word next : List ℕ) (words : List (List ℕ)) → None ≡ whole (λ bytes. bytes) (word_at (λ w. read)) (word ∷ next ∷ words)
none_behind None word next words = refl
none_behind (Some bytes) word next words = refl

none_whole : (separator : ℕ) (words : List (List ℕ)) → hex_of (join_with_byte separator words) ≡ None → None ≡ whole (λ bytes. bytes) hex_at words
none_whole separator [] e = refl
none_whole separator (word ∷ []) e = rw e refl
none_whole separator (word ∷ next ∷ words) e = none_behind (hex_of word) word next words

whole_of : (separator : Separator) (text : List ℕ) → hex_of text ≡ whole (λ bytes. bytes) hex_at (parts (byte_of separator) text)
whole_of separator text = by_value (hex_of text) refl
  where
    by_value : (read : Option (List ℕ)) → hex_of text ≡ read → read ≡ whole (λ bytes. bytes) hex_at (parts (byte_of separator) text)
    by_value None e =
        none_whole (byte_of separator) (parts (byte_of separator) text) (ap hex_of (join_with_byte-slice_split (byte_of separator) text) ∙ e)
    by_value (Some bytes) e =
        let none : HasNo (byte_of separator) text = subst (HasNo (byte_of separator)) (reads_hex.takes text bytes e).0 (no_separator separator bytes) in
        rw (parts-joined (byte_of separator) (text ∷ []) (omega arith) (none, tt), e) refl

-- what the text that is left is as hex
pub hex_of-whole : (separator : Separator) (text : List ℕ) (read : Option (List ℕ)) → read ≡ hex_of text
    → read ≡ whole (λ bytes. bytes) hex_at (parts (byte_of separator) text)
hex_of-whole separator text read e = e ∙ whole_of separator text
