-- How many bytes a line has at least.
use Rattle.std.proofs.Common.{◌≡◌, ◌≤◌, ℕ, ◌+◌, arith, List, [], ◌∷◌, length, ap}
use Rattle.std.proofs.lemmas.Bool.{cond_both}
use Rattle.std.specs.Prelude.{◌==◌}
use Rattle.homa_plain.specs.Input.{without_feed}
use Rattle.text_lines.specs.Lines.{Reading, IsLine}

short_line : (xs : List ℕ) → length (without_feed xs) ≤ length xs
short_line [] = omega arith
short_line (b ∷ bytes) =
    let rest = short_line bytes in
    cond_both (b == 10) [] (b ∷ without_feed bytes) (λ (ys : List ℕ). length ys ≤ length (b ∷ bytes)) (λ _. omega arith) (λ _. omega (arith, rest))

-- the bytes of a line are counted
pub line_grows : (old new : Reading) (came line : List ℕ) (end : Type 0) → IsLine old new came line end → old.read + length new.line ≤ new.read
line_grows old new came line end d =
    let kept : length new.line ≡ length (without_feed line) = ap length d.kept in
    let short = short_line line in
    let read = d.taken.read in
    omega (arith, kept, short, read)
