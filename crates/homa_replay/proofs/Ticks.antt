-- Turns and ticks, one after the other.
use Rattle.std.proofs.Common.{◌≡◌, ◌<◌, ℕ, zero, suc, ◌+◌, ◌-◌, ◌*◌, List, [], ◌∷◌, ◌++◌, length, length-append, refl, sym, ap, ◌∙◌, append_assoc, arith}
use Rattle.std.proofs.lemmas.List.{append-nil}
use Rattle.homa_plain.specs.declared.event.Event.TheVariants as event
use Rattle.homa_plain.specs.Replay.{Happening, bare, turns_of, ticks}
use Rattle.homa_replay.specs.Lines.{tick_of}

turns_split : (n i k m : ℕ) → m ≡ i + k → turns_of n m ≡ turns_of n i ++ turns_of (n + i) k
turns_split n zero k m e = ap (λ (j : ℕ). turns_of n j) (omega (arith, e)) ∙ ap (λ (j : ℕ). turns_of j k) (omega arith)
turns_split n (suc i) k zero e = absurd (omega (arith, e))
turns_split n (suc i) k (suc m) e =
    ap (λ (es : List Happening). bare (event.Turn (record { 0 = n })) ∷ es)
    (turns_split (suc n) i k m (omega (arith, e)) ∙ ap (λ (j : ℕ). turns_of (suc n) i ++ turns_of j k) (omega arith))

ticks_split : (hosts i k m : ℕ) → m ≡ i + k → ticks hosts m ≡ ticks hosts i ++ ticks hosts k
ticks_split hosts zero k m e = ap (λ (j : ℕ). ticks hosts j) (omega (arith, e))
ticks_split hosts (suc i) k zero e = absurd (omega (arith, e))
ticks_split hosts (suc i) k (suc m) e =
    ap (λ (es : List Happening). bare event.Clock ∷ es)
    (ap (λ (es : List Happening). turns_of 0 hosts ++ es) (ticks_split hosts i k m (omega (arith, e)))
    ∙ sym (append_assoc (turns_of 0 hosts) (ticks hosts i) (ticks hosts k)))

abbrev pub turn_at : ℕ → Happening
turn_at i = bare (event.Turn (record { 0 = i }))

-- the turns up to one host's, and this
pub next_turn : (i : ℕ) → turns_of 0 (i + 1) ≡ turns_of 0 i ++ turn_at i ∷ []
next_turn i = turns_split 0 i 1 (i + 1) refl ∙ ap (λ (j : ℕ). turns_of 0 i ++ turn_at j ∷ []) (omega arith)

-- all turns, where one host's stands in their midst
pub around_turn : (i hosts : ℕ) → i < hosts → turns_of 0 hosts ≡ (turns_of 0 i ++ turn_at i ∷ []) ++ turns_of (i + 1) (hosts - (i + 1))
around_turn i hosts h =
    turns_split 0 (i + 1) (hosts - (i + 1)) hosts (omega (arith, h))
    ∙ (ap (λ (es : List Happening). es ++ turns_of (0 + (i + 1)) (hosts - (i + 1))) (next_turn i)
    ∙ ap (λ (j : ℕ). (turns_of 0 i ++ turn_at i ∷ []) ++ turns_of j (hosts - (i + 1))) (omega arith))

one_tick : (hosts : ℕ) → ticks hosts 1 ≡ tick_of hosts
one_tick hosts = ap (λ (es : List Happening). bare event.Clock ∷ es) (append-nil (turns_of 0 hosts))

-- the ticks up to this one
pub next_tick : (hosts i : ℕ) → ticks hosts (i + 1) ≡ ticks hosts i ++ tick_of hosts
next_tick hosts i = ticks_split hosts i 1 (i + 1) refl ∙ ap (λ (es : List Happening). ticks hosts i ++ es) (one_tick hosts)

pub around_tick : (hosts i n : ℕ) → i < n → ticks hosts n ≡ (ticks hosts i ++ tick_of hosts) ++ ticks hosts (n - (i + 1))
around_tick hosts i n h =
    ticks_split hosts (i + 1) (n - (i + 1)) n (omega (arith, h)) ∙ ap (λ (es : List Happening). es ++ ticks hosts (n - (i + 1))) (next_tick hosts i)

pub length-turns : (n k : ℕ) → length (turns_of n k) ≡ k
length-turns n zero = refl
length-turns n (suc k) = ap suc (length-turns (suc n) k)

pub length-ticks : (hosts n : ℕ) → length (ticks hosts n) ≡ n * (hosts + 1)
length-ticks hosts zero = omega arith
length-ticks hosts (suc n) =
    let rest = length-ticks hosts n in
    let both = length-append (turns_of 0 hosts) (ticks hosts n) in
    let turns = length-turns 0 hosts in
    omega (arith, rest, both, turns)
