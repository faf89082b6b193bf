-- Counting bytes.
use Rattle.std.proofs.Common.{◌≡◌, ℕ, zero, suc, length, refl, ap}
use Rattle.homa_plain.specs.Script.{counting}

-- there are as many as were asked for
pub length-counting : (i n : ℕ) → length (counting i n) ≡ n
length-counting i zero = refl
length-counting i (suc n) = ap suc (length-counting (suc i) n)
