-- The line of the quiet call.
use Rattle.std.specs.Prelude.{ℕ, ◌+◌, ◌*◌, List, [], ◌∷◌, codes}
use Rattle.std.specs.Fmt.{decimal}
use Rattle.homa_plain.specs.Text.{line_of_words}

-- the round by which the call is done
abbrev pub bound : ℕ → ℕ → ℕ
bound n m = 2 * (n + m) + 8

-- how many bytes go each way, in which round that is done, and by which it is at the latest
abbrev pub quiet_text : ℕ → ℕ → ℕ → List ℕ
quiet_text n m rounds = line_of_words (codes "quiet" ∷ decimal n ∷ decimal m ∷ codes "rounds" ∷ decimal rounds ∷ codes "bound" ∷ decimal (bound n m) ∷ [])
