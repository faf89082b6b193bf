-- Hex words: bytes that are read have that word, and the word of bytes is read as them.
use Rattle.std.proofs.Common.{◌≡◌, ◌<◌, ℕ, zero, suc, ◌+◌, ◌*◌, ◌/◌, ◌%◌, ◌==◌, ◌&&◌, cond, Bool, true, false, Option, None, Some, Result, Ok, Err}
use Rattle.std.proofs.Common.{List, [], ◌∷◌, length, codes, slice_index, refl, sym, ap, ◌∙◌, subst, arith}
use Rattle.std.specs.Char.{is_ascii_uppercase}
use Rattle.std.specs.List.{list_any}
use Rattle.std.specs.Result.{result_ok, result_unwrap_or}
use Rattle.std.proofs.lemmas.Bool.Decides.{nat_tests}
use Rattle.std.proofs.lemmas.Option.{none-some}
use Rattle.std.proofs.lemmas.Slice.Eq.{bytes_eq-Decides}
use Rattle.hex.specs.Hex.{decode_of, decode_pairs, encode_lower, encode_with, lower_digits, hex_digit_value, digit_or_error, value_at, pair_value}
use Rattle.hex.specs.Hex.{IsBytes, ◌>>=◌}
use Rattle.hex.specs.declared.error.FromHexError.{FromHexError}
use Rattle.hex.proofs.HexLemmas.{IsDigits-lower_digits, decode_of-encode_lower, decode_of-even, decode_of-ok}
use Rattle.homa_plain.specs.Text.{hex_word}
use Rattle.homa_plain.proofs.WireFields.{given, some_is}
use Rattle.check_words.specs.Fields.{hex_of, is_hyphen}
use Rattle.check_words.proofs.NumberWords.{HasNoBlank, is_blank, or_parts, or_none}
use Rattle.check_words.proofs.Readers.{ReadsWord}

-- ---- what a result shows

bind_ok : {A B : Type 0} (r : Result A FromHexError) (f : A → Result B FromHexError) (y : B) → (r >>= f) ≡ Ok y → (x : A) × (r ≡ Ok x) × (f x ≡ Ok y)
bind_ok (Ok x) f y e = (x, refl, e)
bind_ok (Err d) f y e = absurd cc

ok_is : {A : Type 0} (x y : A) → (let r : Result A FromHexError = Ok x in r) ≡ Ok y → x ≡ y
ok_is x y e = ap (λ (r : Result _ FromHexError). result_unwrap_or r x) e

digit_ok : (c i v : ℕ) (o : Option ℕ) → digit_or_error c i o ≡ Ok v → o ≡ Some v
digit_ok c i v (Some w) e = ap given (ok_is w v e)
digit_ok c i v None e = absurd cc

-- ---- digits

small_value : (c v : ℕ) → hex_digit_value c ≡ Some v → v < 16
small_value c v e = grind (arith)

-- two digits of one value, neither of them an upper-case letter, are one
same_digit : (c d v : ℕ) → is_ascii_uppercase c ≡ false → is_ascii_uppercase d ≡ false → hex_digit_value c ≡ Some v → hex_digit_value d ≡ Some v → c ≡ d
same_digit c d v lower lower' e f = grind (arith, nat_tests)

no_upper_at : (t : List ℕ) → list_any is_ascii_uppercase t ≡ false → (k : ℕ) → is_ascii_uppercase (slice_index t k) ≡ false
no_upper_at [] e k = refl
no_upper_at (c ∷ cs) e zero = (or_parts (is_ascii_uppercase c) (list_any is_ascii_uppercase cs) e).0
no_upper_at (c ∷ cs) e (suc k) = no_upper_at cs (or_parts (is_ascii_uppercase c) (list_any is_ascii_uppercase cs) e).1 k

digit_again : (c v : ℕ) → is_ascii_uppercase c ≡ false → hex_digit_value c ≡ Some v → slice_index lower_digits v ≡ c
digit_again c v lower e = same_digit (slice_index lower_digits v) c v (no_upper_at lower_digits refl v) lower (IsDigits-lower_digits v (small_value c v e)) e

-- ---- pairs that are read

pairs_again : (i : ℕ) (text bytes : List ℕ) → list_any is_ascii_uppercase text ≡ false → decode_pairs i text ≡ Ok bytes → encode_lower bytes ≡ text
unfolding decode_pairs encode_with
pairs_again i [] bytes lower e = ap (λ (xs : List ℕ). encode_lower xs) (sym (ok_is [] bytes e))
pairs_again i (a ∷ []) bytes lower e = absurd cc
pairs_again i (a ∷ b ∷ rest) bytes lower e =
    let p = bind_ok (pair_value a b i) _ bytes e in
    let q = bind_ok (value_at a i) _ p.0 p.1 in
    let r = bind_ok (value_at b (i + 1)) _ p.0 q.2 in
    let s = bind_ok (decode_pairs (i + 2) rest) _ bytes p.2 in
    let l = or_parts (is_ascii_uppercase a) (list_any is_ascii_uppercase (b ∷ rest)) lower in
    let m = or_parts (is_ascii_uppercase b) (list_any is_ascii_uppercase rest) l.1 in
    let va = digit_ok a i q.0 (hex_digit_value a) q.1 in
    let vb = digit_ok b (i + 1) r.0 (hex_digit_value b) r.1 in
    let small = small_value b r.0 vb in
    let byte : q.0 * 16 + r.0 ≡ p.0 = ok_is (q.0 * 16 + r.0) p.0 r.2 in
    let high : p.0 / 16 ≡ q.0 = omega (arith, byte, small) in
    let low : p.0 % 16 ≡ r.0 = omega (arith, byte, small) in
    let others = pairs_again (i + 2) rest s.0 m.1 s.1 in
    let whole : p.0 ∷ s.0 ≡ bytes = ok_is (p.0 ∷ s.0) bytes s.2 in
    rw (← whole, high, low, digit_again a q.0 l.0 va, digit_again b r.0 m.0 vb, others) refl

digits_again : (text bytes : List ℕ) → list_any is_ascii_uppercase text ≡ false → decode_of text ≡ Ok bytes → encode_lower bytes ≡ text
digits_again text bytes lower e =
    let ok = decode_of-ok text bytes e in
    pairs_again 0 text bytes lower (sym (decode_of-even text ok.0) ∙ e)

-- ---- digits that are written

some_bytes : (bytes : List ℕ) → 0 < length bytes → hex_word bytes ≡ encode_lower bytes
some_bytes [] some = absurd (omega arith)
some_bytes (b ∷ bytes) some = refl

-- a test that no digit passes
pub none_passes : (test : ℕ → Bool) → ((k : ℕ) → test (slice_index lower_digits k) ≡ false) → (bytes : List ℕ) → list_any test (encode_lower bytes) ≡ false
unfolding encode_with
none_passes test h [] = refl
none_passes test h (b ∷ bytes) =
    or_none (test (slice_index lower_digits (b / 16))) _ (h (b / 16))
    (or_none (test (slice_index lower_digits (b % 16))) _ (h (b % 16)) (none_passes test h bytes))

pub none_at : (test : ℕ → Bool) → test 0 ≡ false → (t : List ℕ) → list_any test t ≡ false → (k : ℕ) → test (slice_index t k) ≡ false
none_at test z [] e k = z
none_at test z (c ∷ cs) e zero = (or_parts (test c) (list_any test cs) e).0
none_at test z (c ∷ cs) e (suc k) = none_at test z cs (or_parts (test c) (list_any test cs) e).1 k

no_hyphen : (a b : ℕ) (rest : List ℕ) → is_hyphen (a ∷ b ∷ rest) ≡ false
no_hyphen a b rest = by_test (a == 45)
  where
    by_test : (t : Bool) → (t && false) ≡ false
    by_test true = refl
    by_test false = refl

hex_by : (hyphen upper : Bool) (value : Option (List ℕ)) → hyphen ≡ false → upper ≡ false → (cond hyphen (Some []) (cond upper None value)) ≡ value
hex_by false false value e f = refl
hex_by false true value e f = absurd cc
hex_by true upper value e f = absurd cc

two_digits : (b : ℕ) (bytes : List ℕ) → IsBytes (b ∷ bytes) → hex_of (encode_lower (b ∷ bytes)) ≡ Some (b ∷ bytes)
unfolding hex_of encode_with
two_digits b bytes fits =
    let x = slice_index lower_digits (b / 16) in
    let y = slice_index lower_digits (b % 16) in
    hex_by (is_hyphen (x ∷ y ∷ encode_lower bytes)) (list_any is_ascii_uppercase (encode_lower (b ∷ bytes))) (result_ok (decode_of (encode_lower (b ∷ bytes))))
    (no_hyphen x y (encode_lower bytes))
    (none_passes is_ascii_uppercase (none_at is_ascii_uppercase refl lower_digits refl) (b ∷ bytes))
    ∙ ap result_ok (decode_of-encode_lower (b ∷ bytes) fits)

-- ---- hex words

hex_takes : (word bytes : List ℕ) → hex_of word ≡ Some bytes → (hex_word bytes ≡ word) × IsBytes bytes
unfolding hex_of
hex_takes [] bytes e = absurd (none-some bytes e)
hex_takes (c ∷ cs) bytes e = by_hyphen (is_hyphen (c ∷ cs)) refl e
  where
    by_value : (r : Result (List ℕ) FromHexError) → decode_of (c ∷ cs) ≡ r → list_any is_ascii_uppercase (c ∷ cs) ≡ false → result_ok r ≡ Some bytes
        → (hex_word bytes ≡ c ∷ cs) × IsBytes bytes
    by_value (Ok read) e lower same =
        let is : read ≡ bytes = some_is read bytes same in
        let ok = decode_of-ok (c ∷ cs) read e in
        let line : hex_word read ≡ c ∷ cs = some_bytes read (omega (arith, ok.2)) ∙ digits_again (c ∷ cs) read lower e in
        subst (λ (xs : List ℕ). (hex_word xs ≡ c ∷ cs) × IsBytes xs) is (line, ok.3)
    by_value (Err d) e lower same = absurd (none-some bytes same)

    by_upper : (t : Bool) → list_any is_ascii_uppercase (c ∷ cs) ≡ t → cond t None (result_ok (decode_of (c ∷ cs))) ≡ Some bytes
        → (hex_word bytes ≡ c ∷ cs) × IsBytes bytes
    by_upper true t e = absurd (none-some bytes e)
    by_upper false t e = by_value (decode_of (c ∷ cs)) refl t e

    by_hyphen : (t : Bool) → is_hyphen (c ∷ cs) ≡ t
        → cond t (Some []) (cond (list_any is_ascii_uppercase (c ∷ cs)) None (result_ok (decode_of (c ∷ cs)))) ≡ Some bytes
        → (hex_word bytes ≡ c ∷ cs) × IsBytes bytes
    by_hyphen true t e =
        subst (λ (xs : List ℕ). (hex_word xs ≡ c ∷ cs) × IsBytes xs) (some_is [] bytes e)
        (sym ((bytes_eq-Decides (c ∷ cs) (codes "-")).0 t), λ k. omega arith)
    by_hyphen false t e = by_upper (list_any is_ascii_uppercase (c ∷ cs)) refl e

hex_again : (bytes : List ℕ) → IsBytes bytes → hex_of (hex_word bytes) ≡ Some bytes
unfolding hex_of
hex_again [] fits = refl
hex_again (b ∷ bytes) fits = two_digits b bytes fits

hex_plain : (bytes : List ℕ) → IsBytes bytes → HasNoBlank (hex_word bytes)
hex_plain [] fits = refl
hex_plain (b ∷ bytes) fits = none_passes is_blank (none_at is_blank refl lower_digits refl) (b ∷ bytes)

pub reads_hex : ReadsWord hex_of hex_word IsBytes
reads_hex = record { takes = hex_takes; again = hex_again; plain = hex_plain }
