use Rattle.std.proofs.Common.{◌≡◌, ℕ, ◌≤◌, Bool, true, false, Some, None, length, arith, rules, tests, refl, ap, ◌∙◌}
use Rattle.std.specs.Prelude.{◌==◌, nat_lt, if◌then◌else◌, unwrap_or}
use Rattle.std.specs.List.{position_or_len}
use Rattle.std.proofs.lemmas.Bool.Decides.{nat_tests}
use Rattle.std.proofs.lemmas.Iterator.{YieldsList-from_slice}
use Rattle.std.proofs.lemmas.Iterator.Search.{position_from_yields_List}
use Rattle.std.proofs.lemmas.List.Sums.{prefix_len-le-length}
use Rattle.script_lines.proofs.words.word_len.Goals as goal

least : (n m : ℕ) (t : Bool) → nat_lt n m ≡ t → n ≤ m → unwrap_or (if t then Some n else None) m ≡ n
least n m true e h = refl
least n m false e h = grind (arith, nat_tests)

pub returns : goal.returns
returns c =
    let line = c.args.line.now in
    let n = position_or_len (λ b. b == 32) line in
    let fits : n ≤ length line = prefix_len-le-length _ line in
    let found = position_from_yields_List (λ b. b == 32) _ _ c.position.result c.position.ensures.ran (YieldsList-from_slice line cc)
    (λ x b q k. search (rules, tests)) in
    let value = c.unwrap_or.ensures ∙ (ap (λ o. unwrap_or o (length line)) found ∙ least n (length line) (nat_lt n (length line)) refl fits) in
    record { value = value; within = omega arith }
