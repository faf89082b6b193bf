-- Numbers that are printed, as they are read.
use Rattle.std.proofs.Common.{◌≡◌, ◌<◌, ◌≤◌, inl, inr, ℕ, ◌+◌, ◌-◌, ◌*◌, ◌/◌, ◌%◌, ◌^◌, arith, Bool, true, false, Some, None, Ok, List, [], ◌∷◌, ◌++◌}
use Rattle.std.proofs.Common.{length, get_or, refl, ap, ◌∙◌}
use Rattle.std.specs.Prelude.{◌==◌, nat_lt, nat_le, if◌then◌else◌}
use Rattle.std.specs.Char.{is_ascii_digit}
use Rattle.std.specs.Fmt.{decimal}
use Rattle.std.proofs.lemmas.Bool.{cases_eq}
use Rattle.std.proofs.lemmas.Bool.Decides.{nat_tests}
use Rattle.std.proofs.lemmas.Fmt.{decimal_by_steps, decimal_digit, decimal_nonempty, first_decimal}
use borrow.Author.Tests.{ne_eqb}
use Rattle.homa_plain.specs.Numbers.{digits_value, in_64_bits, number_of}
use Rattle.homa_plain.specs.Script.{number_at_most}
use Rattle.homa_script.proofs.Printed.{AllSeen, IsWord}

is_digit : (c : ℕ) → 47 < c → c < 58 → is_ascii_digit c ≡ true
is_digit c h k = grind (arith, nat_tests)

-- one digit more
value_by : (m n d : ℕ) (ds : List ℕ) (c : ℕ) (t : Bool) → (if t then digits_value (m * 10 + (c - 48)) ds else None) ≡ Some n
    → (digits_value (m * 10 + (c - 48)) ds ≡ Some n → digits_value (m * 10 + (c - 48)) (ds ++ (48 + d) ∷ []) ≡ Some (n * 10 + d))
    → (if t then digits_value (m * 10 + (c - 48)) (ds ++ (48 + d) ∷ []) else None) ≡ Some (n * 10 + d)
value_by m n d ds c true e f = f e
value_by m n d ds c false e f = absurd cc

value_more : (m n : ℕ) (ds : List ℕ) (d : ℕ) → d < 10 → digits_value m ds ≡ Some n → digits_value m (ds ++ (48 + d) ∷ []) ≡ Some (n * 10 + d)
value_more m n [] d h e =
    let same : m ≡ n = cc in
    let yes : is_ascii_digit (48 + d) ≡ true = is_digit (48 + d) (omega arith) (omega arith) in
    rw yes (ap Some (omega arith))
value_more m n (c ∷ ds) d h e = value_by m n d ds c (is_ascii_digit c) e (λ k. value_more (m * 10 + (c - 48)) n ds d h k)

seen_more : (ds : List ℕ) (c : ℕ) → AllSeen ds → 32 < c → c < 128 → AllSeen (ds ++ c ∷ [])
seen_more [] c s h k = (h, k, tt)
seen_more (b ∷ ds) c s h k = (s.0, s.1, seen_more ds c s.2 h k)

-- the digits of a number
record IsDigits (n : ℕ) (ds : List ℕ) : Type 0 where
  value : digits_value 0 ds ≡ Some n
  seen : AllSeen ds

one_digit : (n : ℕ) → n < 10 → IsDigits n ((48 + n) ∷ [])
one_digit n h = record { value = value_more 0 0 [] n h refl ∙ ap Some (omega arith); seen = (omega arith, omega arith, tt) }

more_digits : (n : ℕ) (ds : List ℕ) → 10 ≤ n → IsDigits (n / 10) ds → IsDigits n (ds ++ (48 + n % 10) ∷ [])
more_digits n ds h d = record {
  value = value_more 0 (n / 10) ds (n % 10) (omega arith) d.value ∙ ap Some (omega arith);
  seen = seen_more ds (48 + n % 10) d.seen (omega arith) (omega arith);
}

digits_of : (n : ℕ) → n < 2 ^ 64 → IsDigits n (decimal n)
digits_of n h = decimal_by_steps IsDigits one_digit more_digits n h

-- a number is a word
pub word-decimal : (n : ℕ) → n < 2 ^ 64 → IsWord (decimal n)
word-decimal n h = record { some = decimal_nonempty n h; seen = (digits_of n h).seen }

fits : (n : ℕ) → n < 2 ^ 64 → in_64_bits (Some n) ≡ Some n
fits n h = let e : nat_lt n (2 ^ 64) ≡ true = grind (arith, nat_tests) in ap (λ (t : Bool). if t then Some n else None) e

number_by : (n : ℕ) (ds : List ℕ) → n < 2 ^ 64 → 0 < length ds → 48 < get_or ds 0 0 → digits_value 0 ds ≡ Some n → number_of ds ≡ Some n
number_by n [] h k f e = absurd (omega arith)
number_by n (c ∷ []) h k f e = ap in_64_bits e ∙ fits n h
number_by n (c ∷ d ∷ ds) h k f e = let no : (c == 48) ≡ false = ne_eqb c 48 (λ z. omega (arith, f)) in rw no (ap in_64_bits e ∙ fits n h)

number_of-zero : (n : ℕ) → n ≡ 0 → number_of (decimal n) ≡ Some n
number_of-zero n e = rw e (ap number_of (decimal_digit 0 (omega arith)))

-- and is read as itself
pub number_of-decimal : (n : ℕ) → n < 2 ^ 64 → number_of (decimal n) ≡ Some n
number_of-decimal n h = elim (cases_eq n 0) [
  | inl e ↦ number_of-zero n e
  | inr e ↦ number_by n (decimal n) h (decimal_nonempty n h) (first_decimal n (omega arith) h) (digits_of n h).value
]

-- also where it may be so much at most
pub operand-decimal : (most n : ℕ) (words : List (List ℕ)) → n ≤ most → n < 2 ^ 64 → number_at_most most (decimal n ∷ words) ≡ Ok (n, words)
operand-decimal most n words h k =
    let e : nat_le n most ≡ true = grind (arith, nat_tests) in
    rw (number_of-decimal n k, e) refl
