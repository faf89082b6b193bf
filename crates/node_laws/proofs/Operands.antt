-- What the operands of a line are: numbers within their bounds, and bytes.
use Rattle.std.proofs.Common.{◌≡◌, ℕ, suc, zero, refl, Bool, true, false, Option, None, Some, Result, Ok, Err, List, [], ◌∷◌, subst, ◌≤◌, arith}
use Rattle.std.specs.Prelude.{◌==◌, if◌then◌else◌, nat_lt, nat_le, codes}
use Rattle.std.specs.Str.{bytes_eq}
use Rattle.std.proofs.lemmas.Bool.{leb-true, ltb-false}
use Rattle.hex.specs.Hex.{decode_of}
use Rattle.hex.specs.declared.error.FromHexError.{FromHexError}
use Rattle.hex.proofs.HexLemmas.{decode_of-ok}
use Rattle.homa_plain.specs.declared.fault.ScriptFault.{ScriptFault}
use Rattle.homa_plain.specs.declared.fault.ScriptFault.TheVariants.{Missing, BadHex, BadNumber, Extra}
use Rattle.homa_plain.specs.Bytes.{IsBytes}
use Rattle.homa_plain.specs.Numbers.{number_of}
use Rattle.homa_plain.specs.Script.{◌>>=◌, number_up_to, number_at_most, counting, most_counted, counted, hex_bytes, bytes_of_word, bytes_operand, alone}
use Rattle.node_runs.specs.Script.{number_between}

-- ---- readers

-- what comes of two readers one behind the other
pub record IsBound {A B : Type 0} (r : Result A ScriptFault) (f : A → Result B ScriptFault) (y : B) : Type 0 where
  pub value : A
  pub first : r ≡ Ok value
  pub second : f value ≡ Ok y

pub bound : {A B : Type 0} (r : Result A ScriptFault) (f : A → Result B ScriptFault) (y : B) → (r >>= f) ≡ Ok y → IsBound r f y
bound (Err fault) f y e = absurd (let z : Err fault ≡ Ok y = e in cc)
bound (Ok x) f y e = record { value = x; first = refl; second = e }

pub alone_is : {A : Type 0} (x : A) (words : List (List ℕ)) (y : A) → alone (x, words) ≡ Ok y → x ≡ y
alone_is x [] y e = cc
alone_is x (word ∷ words) y e = absurd (let z : Err Extra ≡ Ok y = e in cc)

-- ---- numbers

number_small : (most : ℕ) (o : Option ℕ) (n : ℕ) → number_up_to most o ≡ Ok n → n ≤ most
number_small most None n e = absurd (let z : Err BadNumber ≡ Ok n = e in cc)
number_small most (Some m) n e = by_test (nat_le m most) refl e where
  by_test : (b : Bool) → nat_le m most ≡ b → (if b then Ok m else Err BadNumber) ≡ Ok n → n ≤ most
  by_test true t h = let it : m ≡ n = cc in omega (arith, leb-true m most t, it)
  by_test false t h = absurd (let z : Err BadNumber ≡ Ok n = h in cc)

pub operand_small : (most : ℕ) (words : List (List ℕ)) (x : ℕ × List (List ℕ)) → number_at_most most words ≡ Ok x → x.0 ≤ most
operand_small most [] x e = absurd (let z : Err Missing ≡ Ok x = e in cc)
operand_small most (word ∷ words) x e =
    let b = bound (number_up_to most (number_of word)) (λ y. Ok (y, words)) x e in
    let it : (b.value, words) ≡ x = (let z = b.second in cc) in
    subst (λ (y : ℕ × List (List ℕ)). y.0 ≤ most) it (number_small most (number_of word) b.value b.first)

pub between_is : (least most : ℕ) (words : List (List ℕ)) (x : ℕ × List (List ℕ)) → number_between least most words ≡ Ok x → (least ≤ x.0) × (x.0 ≤ most)
between_is least most words x e =
    let b = bound (number_at_most most words) (λ n. if nat_lt n.0 least then Err BadNumber else Ok n) x e in
    by_test b.value (operand_small most words b.value b.first) (nat_lt (b.value).0 least) refl b.second where
      by_test : (y : ℕ × List (List ℕ)) → y.0 ≤ most → (t : Bool) → nat_lt y.0 least ≡ t → (if t then Err BadNumber else Ok y) ≡ Ok x
          → (least ≤ x.0) × (x.0 ≤ most)
      by_test y small true f h = absurd (let z : Err BadNumber ≡ Ok x = h in cc)
      by_test y small false f h = let it : y ≡ x = cc in subst (λ (z : ℕ × List (List ℕ)). (least ≤ z.0) × (z.0 ≤ most)) it (ltb-false y.0 least f, small)

-- ---- bytes

counted_bytes : (i n : ℕ) → IsBytes (counting i n)
counted_bytes i zero j = omega arith
counted_bytes i (suc n) zero = omega arith
counted_bytes i (suc n) (suc j) = counted_bytes (suc i) n j

word_bytes : (word bytes : List ℕ) → bytes_of_word word ≡ Ok bytes → IsBytes bytes
unfolding bytes_of_word
word_bytes [] bytes e = let it : [] ≡ bytes = cc in subst IsBytes it (λ j. omega arith)
word_bytes (c ∷ cs) bytes e = by_first (c == 42) (bytes_eq (c ∷ cs) (codes "-")) e where
  by_hex : (r : Result (List ℕ) FromHexError) → decode_of (c ∷ cs) ≡ r → hex_bytes r ≡ Ok bytes → IsBytes bytes
  by_hex (Err fault) is h = absurd (let z : Err BadHex ≡ Ok bytes = h in cc)
  by_hex (Ok xs) is h = let it : xs ≡ bytes = cc in subst IsBytes it (decode_of-ok (c ∷ cs) xs is).3

  by_first : (a b : Bool)
      → (if a then counted (number_up_to most_counted (number_of cs)) else if b then Ok [] else hex_bytes (decode_of (c ∷ cs))) ≡ Ok bytes → IsBytes bytes
  by_first true b h =
      let n = bound (number_up_to most_counted (number_of cs)) (λ m. Ok (counting 0 m)) bytes h in
      let it : counting 0 n.value ≡ bytes = (let z = n.second in cc) in
      subst IsBytes it (counted_bytes 0 n.value)
  by_first false true h = let it : [] ≡ bytes = cc in subst IsBytes it (λ j. omega arith)
  by_first false false h = by_hex (decode_of (c ∷ cs)) refl h

pub operand_bytes : (words : List (List ℕ)) (x : List ℕ × List (List ℕ)) → bytes_operand words ≡ Ok x → IsBytes x.0
operand_bytes [] x e = absurd (let z : Err Missing ≡ Ok x = e in cc)
operand_bytes (word ∷ words) x e =
    let b = bound (bytes_of_word word) (λ y. Ok (y, words)) x e in
    let it : (b.value, words) ≡ x = (let z = b.second in cc) in
    subst (λ (y : List ℕ × List (List ℕ)). IsBytes y.0) it (word_bytes word b.value b.first)
