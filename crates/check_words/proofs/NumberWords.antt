-- Numbers as words: a number that is read has that word, and the word of a number is read as it.
use Rattle.std.proofs.Common.{◌≡◌, ◌<◌, ◌≤◌, ◌^◌, ℕ, zero, suc, ◌+◌, ◌-◌, ◌*◌, ◌==◌, ◌||◌, nat_lt, cond, Bool, true, false, Option, None, Some, List}
use Rattle.std.proofs.Common.{[], ◌∷◌, length, get_or, decimal, refl, sym, ap, ◌∙◌, arith, ◌⊎◌}
use Rattle.std.specs.Char.{is_ascii_digit}
use Rattle.std.specs.Int.{IsInRange}
use Rattle.std.specs.List.{AllByRecursion, list_any}
use Rattle.std.proofs.lemmas.Bool.{eqb-true, ltb-true, false≢true}
use Rattle.std.proofs.lemmas.Bool.Decides.{nat_tests}
use Rattle.std.proofs.lemmas.Fmt.{decimal_digit, first_decimal, decimal_nonempty, digits_decimal, digits_value-decimal, decimal-digits_value}
use Rattle.std.proofs.lemmas.Option.{none-some}
use Rattle.std.proofs.lemmas.Str.Parse.{IsNumeralModel, numerals_by_fold}
use Rattle.homa_plain.specs.Numbers.{digits_value, in_64_bits, number_of}
use Rattle.homa_plain.proofs.WireFields.{given, some_is}

abbrev pub AreDigits : List ℕ → Type 0
AreDigits word = AllByRecursion (IsInRange 48 57) word

-- the value of digits that stand behind those of n
abbrev value : ℕ → List ℕ → ℕ
value n [] = n
value n (c ∷ cs) = value (n * 10 + (c - 48)) cs

own : IsNumeralModel AreDigits (value 0)
own = numerals_by_fold AreDigits (record { empty = tt; parts = λ c cs h. h; more = λ c cs h hs. (h, hs) }) value
    (record { empty = λ n. refl; more = λ n c cs h. refl })

in_range : (c : ℕ) → is_ascii_digit c ≡ true → IsInRange 48 57 c
in_range c e = grind (arith, nat_tests)

is_digit : (c : ℕ) → IsInRange 48 57 c → is_ascii_digit c ≡ true
is_digit c h = grind (arith, nat_tests)

-- what digits are worth
passed : (t : Bool) (x : Option ℕ) (m : ℕ) → cond t x None ≡ Some m → (t ≡ true) × (x ≡ Some m)
passed true x m e = (refl, e)
passed false x m e = absurd (none-some m e)

some-digits : (n m : ℕ) (word : List ℕ) → digits_value n word ≡ Some m → AreDigits word × (value n word ≡ m)
some-digits n m [] e = (tt, some_is n m e)
some-digits n m (c ∷ cs) e =
    let p = passed (is_ascii_digit c) (digits_value (n * 10 + (c - 48)) cs) m e in
    let rest = some-digits (n * 10 + (c - 48)) m cs p.1 in
    ((in_range c p.0, rest.0), rest.1)

digits-some : (n : ℕ) (word : List ℕ) → AreDigits word → digits_value n word ≡ Some (value n word)
digits-some n [] h = refl
digits-some n (c ∷ cs) h = rw (is_digit c h.0) (digits-some (n * 10 + (c - 48)) cs h.1)

-- numbers of 64 bits
in_bits : (x : Option ℕ) (n : ℕ) → in_64_bits x ≡ Some n → (x ≡ Some n) × (n < 2 ^ 64)
in_bits None n e = absurd (none-some n e)
in_bits (Some m) n e =
    let p = passed (nat_lt m (2 ^ 64)) (Some m) n e in
    let same : m ≡ n = some_is m n p.1 in
    (p.1, rw (← same) (ltb-true m (2 ^ 64) p.0))

bits_in : (n : ℕ) → n < 2 ^ 64 → in_64_bits (Some n) ≡ Some n
bits_in n h = let small : nat_lt n (2 ^ 64) ≡ true = grind (arith, nat_tests) in rw small refl

-- a word that is read
written : (word : List ℕ) (n : ℕ) → 0 < length word → (get_or word 0 0 ≡ 48 → length word ≡ 1) → in_64_bits (digits_value 0 word) ≡ Some n
    → (decimal n ≡ word) × (n < 2 ^ 64)
written word n some plain e =
    let bits = in_bits (digits_value 0 word) n e in
    let digits = some-digits 0 n word bits.0 in
    let fits : value 0 word < 2 ^ 64 = rw digits.1 bits.1 in
    (ap decimal (sym digits.1) ∙ decimal-digits_value own word digits.0 some plain fits, bits.1)

no_zero : (t : Bool) (x : Option ℕ) (n : ℕ) → cond t None x ≡ Some n → (t ≡ false) × (x ≡ Some n)
no_zero true x n e = absurd (none-some n e)
no_zero false x n e = (refl, e)

pub number_of-takes : (word : List ℕ) (n : ℕ) → number_of word ≡ Some n → (decimal n ≡ word) × (n < 2 ^ 64)
number_of-takes [] n e = absurd (none-some n e)
number_of-takes (c ∷ []) n e = written (c ∷ []) n (omega arith) (λ z. refl) e
number_of-takes (c ∷ d ∷ cs) n e =
    let p = no_zero (c == 48) (in_64_bits (digits_value 0 (c ∷ d ∷ cs))) n e in
    written (c ∷ d ∷ cs) n (omega arith) (λ z. absurd (grind (arith, nat_tests))) p.1

-- a word that is written
read_by : (word : List ℕ) (n : ℕ) → 0 < length word → (2 ≤ length word → get_or word 0 0 ≡ 48 → ⊥) → in_64_bits (digits_value 0 word) ≡ Some n
    → number_of word ≡ Some n
read_by [] n some plain e = absurd (omega arith)
read_by (c ∷ []) n some plain e = e
read_by (c ∷ d ∷ cs) n some plain e =
    let other : (c == 48) ≡ false = not_zero c (λ z. plain (omega arith) z) in
    rw other e
  where
    not_zero : (c : ℕ) → (c ≡ 48 → ⊥) → (c == 48) ≡ false
    not_zero c h = by_test (c == 48) refl
      where
        by_test : (t : Bool) → (c == 48) ≡ t → t ≡ false
        by_test true e = absurd (h (eqb-true c 48 e))
        by_test false e = refl

no_leading_zero : (n : ℕ) → n < 2 ^ 64 → 2 ≤ length (decimal n) → get_or (decimal n) 0 0 ≡ 48 → ⊥
no_leading_zero zero h long zero_first = let one = ap length (decimal_digit 0 (omega arith)) in absurd (omega (arith, one))
no_leading_zero (suc n) h long zero_first = absurd (omega (arith, first_decimal (suc n) (omega arith) h))

pub number_of-again : (n : ℕ) → n < 2 ^ 64 → number_of (decimal n) ≡ Some n
number_of-again n h =
    let digits = digits-some 0 (decimal n) (digits_decimal own n h) ∙ ap given (digits_value-decimal own n h) in
    read_by (decimal n) n (decimal_nonempty n h) (no_leading_zero n h) (ap in_64_bits digits ∙ bits_in n h)

-- ---- bytes that stand in no word of a number

abbrev pub HasNo : ℕ → List ℕ → Type 0
HasNo b word = list_any (λ c. c == b) word ≡ false

-- a space, or a line feed
abbrev pub is_blank : ℕ → Bool
is_blank c = c == 32 || c == 10

abbrev pub HasNoBlank : List ℕ → Type 0
HasNoBlank word = list_any is_blank word ≡ false

pub or_parts : (a b : Bool) → (a || b) ≡ false → (a ≡ false) × (b ≡ false)
or_parts false b e = (refl, e)
or_parts true b e = absurd cc

pub or_none : (a b : Bool) → a ≡ false → b ≡ false → (a || b) ≡ false
or_none false b e f = f
or_none true b e f = absurd cc

-- a byte that is blank stands in no word that has none
pub blank-no : (b : ℕ) → is_blank b ≡ true → (word : List ℕ) → HasNoBlank word → HasNo b word
blank-no b blank [] h = refl
blank-no b blank (c ∷ cs) h =
    let p = or_parts (is_blank c) (list_any is_blank cs) h in
    or_none (c == b) (list_any (λ d. d == b) cs) (by_test (c == b) refl p.0) (blank-no b blank cs p.1)
  where
    by_test : (t : Bool) → (c == b) ≡ t → is_blank c ≡ false → t ≡ false
    by_test true e f = let same : c ≡ b = eqb-true c b e in absurd (false≢true (sym f ∙ ap is_blank same ∙ blank))
    by_test false e f = refl

digits-none : (test : ℕ → Bool) → ((c : ℕ) → IsInRange 48 57 c → test c ≡ false) → (word : List ℕ) → AreDigits word → list_any test word ≡ false
digits-none test h [] d = refl
digits-none test h (c ∷ cs) d = or_none (test c) (list_any test cs) (h c d.0) (digits-none test h cs d.1)

pub decimal-no : (b n : ℕ) → (b < 48) ⊎ (57 < b) → n < 2 ^ 64 → HasNo b (decimal n)
decimal-no b n h fits = digits-none (λ c. c == b) (λ c d. grind (arith, nat_tests)) (decimal n) (digits_decimal own n fits)

not_blank : (c : ℕ) → IsInRange 48 57 c → is_blank c ≡ false
not_blank c d = or_none (c == 32) (c == 10) (grind (arith, nat_tests)) (grind (arith, nat_tests))

pub decimal-no_blank : (n : ℕ) → n < 2 ^ 64 → HasNoBlank (decimal n)
decimal-no_blank n fits = digits-none is_blank not_blank (decimal n) (digits_decimal own n fits)
