-- What a host is handed next, by what becomes of the packet that comes first.
use Rattle.std.proofs.Common.{◌≡◌, refl, sym, ap, ◌∙◌, ℕ, zero, suc, ◌+◌, ◌-◌, ◌<◌, Bool, nat_lt, true, false, if◌then◌else◌, Option, None, Some}
use Rattle.std.proofs.Common.{List, [], ◌∷◌, inl, inr, length, get_or, add-zero, arith}
use Rattle.std.proofs.lemmas.List.{get_or_past}
use Rattle.std.proofs.lemmas.List.Sums.{sum_by-set}
use Rattle.std.proofs.lemmas.Bool.{cases_lt}
use Rattle.rand_pcg.specs.Lcg.{Lcg}
use Rattle.generated_runs.specs.Draws.{draw}
use Rattle.generated_runs.specs.Fabric.{Queued, Destination, Hop, Ends, Loses, Hands, Handed, level_of, with_level, highest, drawn, first_hop}
use Rattle.generated_runs.specs.Fabric.{level_hop, again_hop, hop, handed, next_of, on_the_way}

-- what comes of it
abbrev after_hop : ℕ → ℕ → ℕ → Destination → Lcg → Hop → Handed
after_hop n life now d g Ends = record { number = None; to = d; random = g }
after_hop n life now d g (Loses rest random) = handed n life now rest random
after_hop n life now d g (Hands number rest random) = record { number = Some number; to = rest; random = random }

-- the round ends
pub next_ends : (life now : ℕ) (d : Destination) (g : Lcg) → Ends ≡ hop life now d g → next_of life now d g ≡ record { number = None; to = d; random = g }
unfolding handed
next_ends life now d g is = ap (after_hop (on_the_way d) life now d g) (sym is)

-- a packet is handed over
pub next_hands : (life now : ℕ) (d rest : Destination) (g random : Lcg) (number : ℕ) → Hands number rest random ≡ hop life now d g
    → next_of life now d g ≡ record { number = Some number; to = rest; random = random }
unfolding handed
next_hands life now d rest g random number is = ap (after_hop (on_the_way d) life now d g) (sym is)

-- a packet that comes first is of a level that there is
inside_level : (levels : List (List Queued)) (level : ℕ) (p : Queued) (ps : List Queued) → get_or levels level [] ≡ p ∷ ps → level < length levels
inside_level levels level p ps first =
    elim (cases_lt level (length levels)) [ inl inside ↦ inside | inr past ↦ (let none : get_or levels level [] ≡ [] = get_or_past levels level [] past in cc) ]

-- without it one less is on its way
one_less : (d : Destination) (level : ℕ) (p : Queued) (ps : List Queued) → level_of d level ≡ p ∷ ps → suc (on_the_way (with_level d level ps)) ≡ on_the_way d
one_less d level p ps first =
    let sums = sum_by-set (λ (queue : List Queued). length queue) d.levels level ps [] (inside_level d.levels level p ps first) in
    let count : length (level_of d level) ≡ suc (length ps) = ap (λ (queue : List Queued). length queue) first in
    omega (arith, sums, count)

-- one that is lost has left its queue
drawn_less : (p : Queued) (d from rest : Destination) (n : ℕ) (g random : Lcg) → drawn p from (n, g) ≡ Loses rest random
    → suc (on_the_way from) ≡ on_the_way d → suc (on_the_way rest) ≡ on_the_way d
drawn_less p d from rest zero g random is less = let same : rest ≡ from = cc in ap (λ (x : Destination). suc (on_the_way x)) same ∙ less
drawn_less p d from rest (suc zero) g random is less = cc
drawn_less p d from rest (suc (suc n)) g random is less = cc

tested_less : (p : Queued) (d old drawable rest : Destination) (over late : Bool) (g random : Lcg)
    → (if over then Ends else if late then Loses old g else drawn p drawable (draw 64 g)) ≡ Loses rest random
    → suc (on_the_way old) ≡ on_the_way d → suc (on_the_way drawable) ≡ on_the_way d → suc (on_the_way rest) ≡ on_the_way d
tested_less p d old drawable rest true late g random is less drawn_less = cc
tested_less p d old drawable rest false true g random is less drawable_less =
    let same : rest ≡ old = cc in ap (λ (x : Destination). suc (on_the_way x)) same ∙ less
tested_less p d old drawable rest false false g random is less drawable_less = drawn_less p d drawable rest (draw 64 g).0 (draw 64 g).1 random is drawable_less

first_less : (life now : ℕ) (d rest : Destination) (g random : Lcg) (level : ℕ) (queue : List Queued) → level_of d level ≡ queue
    → first_hop life now d g level queue ≡ Loses rest random → suc (on_the_way rest) ≡ on_the_way d
first_less life now d rest g random level [] first is = cc
first_less life now d rest g random level (p ∷ ps) first is =
    tested_less p d (with_level d level ps) (record (with_level d level ps) { budget = d.budget - p.size }) rest (nat_lt d.budget p.size)
    (nat_lt (p.tick + life) now) g random is (one_less d level p ps first) (one_less d level p ps first)

level_less : (life now : ℕ) (d rest : Destination) (g random : Lcg) (level : Option ℕ) → level_hop life now d g level ≡ Loses rest random
    → suc (on_the_way rest) ≡ on_the_way d
level_less life now d rest g random None is = cc
level_less life now d rest g random (Some level) is = first_less life now d rest g random level (level_of d level) refl is

again_less : (life now : ℕ) (d rest : Destination) (g random : Lcg) (again : Option ℕ) → again_hop life now d g again ≡ Loses rest random
    → suc (on_the_way rest) ≡ on_the_way d
again_less life now d rest g random (Some number) is = cc
again_less life now d rest g random None is = level_less life now d rest g random (highest 0 d.levels) is

pub loses_less : (life now : ℕ) (d rest : Destination) (g random : Lcg) → Loses rest random ≡ hop life now d g → suc (on_the_way rest) ≡ on_the_way d
loses_less life now d rest g random is = again_less life now d rest g random d.again (sym is)

-- the next one is looked at
pub next_loses : (life now : ℕ) (d rest : Destination) (g random : Lcg) → Loses rest random ≡ hop life now d g
    → next_of life now d g ≡ next_of life now rest random
unfolding handed
next_loses life now d rest g random is =
    ap (after_hop (on_the_way d) life now d g) (sym is) ∙ ap (λ (n : ℕ). handed n life now rest random) (sym (loses_less life now d rest g random is))

-- the highest level that has a packet: none, where no level has one
pub highest_none : (from : ℕ) (queues : List (List Queued)) → ((k : ℕ) → get_or queues k [] ≡ []) → highest from queues ≡ None
highest_none from [] none = refl
highest_none from (queue ∷ queues) none = rw (highest_none (suc from) queues (λ k. none (suc k)), none zero) refl

-- that which has one, where none above it has
pub highest_some : (from k : ℕ) (queues : List (List Queued)) (p : Queued) (ps : List Queued) → get_or queues k [] ≡ p ∷ ps
    → ((j : ℕ) → k < j → get_or queues j [] ≡ []) → highest from queues ≡ Some (from + k)
highest_some from k [] p ps here above = cc
highest_some from zero (queue ∷ queues) p ps here above = rw (highest_none (suc from) queues (λ j. above (suc j) (omega arith)), here, add-zero from) refl
highest_some from (suc k) (queue ∷ queues) p ps here above =
    let next : suc from + k ≡ from + suc k = omega arith in
    rw (highest_some (suc from) k queues p ps here (λ j less. above (suc j) (omega arith)), next) refl
