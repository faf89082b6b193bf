-- The lines of a generated schedule.
use Rattle.std.proofs.Common.{◌≡◌, ◌≤◌, ℕ, zero, suc, ◌%◌, List, [], ◌∷◌, ◌++◌, take, refl, ap, arith}
use Rattle.std.proofs.lemmas.List.{append-nil}
use Rattle.homa_plain.specs.declared.event.Event.TheVariants as event
use Rattle.homa_plain.specs.Script.{counting}
use Rattle.homa_plain.specs.Replay.{Happening, turns_of, ticks, bare}

pub one_tick : (hosts : ℕ) → ticks hosts 1 ≡ bare event.Clock ∷ [] ++ turns_of 0 hosts
one_tick hosts = ap (λ (es : List Happening). bare event.Clock ∷ es) (append-nil (turns_of 0 hosts))

-- a front of counting bytes
pub take-counting : (i n m : ℕ) → n ≤ m → take n (counting i m) ≡ counting i n
take-counting i zero m few = refl
take-counting i (suc n) zero few = absurd (omega arith)
take-counting i (suc n) (suc m) few = ap (λ (l : List ℕ). i % 256 ∷ l) (take-counting (suc i) n m (omega arith))
