-- The calls that a packet acknowledges, part by part.
use Rattle.std.proofs.Common.{◌≡◌, ◌<◌, ◌≤◌, ℕ, ◌+◌, ◌^◌, decimal, arith, List, ◌∷◌, ◌++◌, length, map, take, get_or, sym, ap, ◌∙◌}
use Rattle.std.proofs.lemmas.Fmt.{length-decimal-le}
use Rattle.std.proofs.lemmas.List.Folds.{flat_map-map}
use Rattle.homa_plain.specs.Text.{call_word}
use Rattle.written_lines.proofs.Texts.{flat_map-more}
use Rattle.homa_text.specs.FrequentLines.{spaced_text}

-- the calls so far and the next one, each behind a space
pub calls-more : (calls : List (ℕ × ℕ)) (i : ℕ) (d : ℕ × ℕ) → i < length calls
    → spaced_text (map call_word (take i calls)) ++ (32 ∷ call_word (get_or calls i d)) ≡ spaced_text (map call_word (take (i + 1) calls))
calls-more calls i d h =
    let spaced : List ℕ → List ℕ = λ word. 32 ∷ word in
    ap (λ (ys : List ℕ). ys ++ (32 ∷ call_word (get_or calls i d))) (flat_map-map spaced call_word (take i calls))
    ∙ (flat_map-more (λ (call : ℕ × ℕ). 32 ∷ call_word call) calls i d h ∙ sym (flat_map-map spaced call_word (take (i + 1) calls)))

-- a number of 32 bits has at most ten digits
pub ten_digits : (n : ℕ) → n < 2 ^ 32 → length (decimal n) ≤ 10
ten_digits n small = length-decimal-le 10 n (omega arith) (omega arith) (omega arith)
