use Rattle.std.proofs.Common.{◌≡◌, ◌∷◌, ◌≢◌, ℕ, ◌+◌, ◌-◌, ◌<◌, List, length, take, drop, get_or, arith, refl, sym, ap, ◌∙◌, length-drop}
use Rattle.std.proofs.lemmas.List.{take_rest, get_or-drop}
use Rattle.homa_plain.specs.Input.{words_of}
use Rattle.script_lines.proofs.WordsOf.{word_len, words_of-word}
use Rattle.script_lines.proofs.words.split_word.Goals as goal

-- the first word of what is left, and what stands behind it
split : (line rest front back : List ℕ) (i n : ℕ) → i < length line → get_or line i 0 ≢ 32 → words_of line ≡ words_of (drop i line)
    → rest ≡ take (length line - i) (drop i line) → n ≡ word_len rest → front ≡ take n rest → back ≡ drop n rest → words_of line ≡ front ∷ words_of back
split line rest front back i n h k w e f a b =
    let is : rest ≡ drop i line = e ∙ take_rest line i in
    let some : 0 < length rest = omega (arith, ap length is, length-drop i line) in
    let same : i + 0 ≡ i = omega arith in
    let at : get_or rest 0 0 ≡ get_or line i 0 = ap (λ (xs : List ℕ). get_or xs 0 0) is ∙ (get_or-drop i line 0 0 ∙ ap (λ (j : ℕ). get_or line j 0) same) in
    w ∙ (ap words_of (sym is) ∙ (words_of-word rest some (λ z. k (sym at ∙ z)) ∙ rw (a, b, f) refl))

pub returns-then-b-ne32-clause-some : goal.returns-then-b-ne32-clause-some
returns-then-b-ne32-clause-some c =
    let line = c.args.line.now in
    split line (take (length line - c.loop-i.i)
    (drop c.loop-i.i line)) _ _ c.loop-i.i c.word_len.result c.loop-i-test.true c.if-b-ne32.true c.loop-i.invariant refl c.word_len.ensures.value
    c.split_at.ensures.front c.split_at.ensures.back
