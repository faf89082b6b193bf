-- Tables of lengths, and what is drawn from them.
use Rattle.std.specs.Prelude.{ℕ, zero, suc, ◌+◌, ◌-◌, ◌*◌, ◌/◌, ◌==◌, nat_lt, nat_le, Bool, true, ◌&&◌, if◌then◌else◌, Option, None, Some, List}
use Rattle.std.specs.Prelude.{[], ◌∷◌, length}
use Rattle.std.specs.List.{sum_by}
use Rattle.std.specs.Int.{div_ceil}
use Rattle.rand_pcg.specs.Lcg.{Lcg}
use Rattle.experiment.specs.declared.steps.Step.{Step}
use Rattle.experiment.specs.declared.tables.TheConstants.{W1, W2, W3, W4, W5}
use Rattle.experiment.specs.Draws.{below}
use Rattle.experiment.specs.Wires.{Cut, wire, wire_up_to}

-- ---- tables

-- a step has a length at least, all above this one and none above 1,000,000, and a share from 1 to 1,000,000
abbrev pub is_step : ℕ → Step → Bool
is_step low s = nat_le low s.above && nat_lt s.above s.upto && nat_le s.upto 1000000 && nat_lt 0 s.share && nat_le s.share 1000000

-- each step is above the one before
abbrev pub rises : ℕ → List Step → Bool
rises low [] = true
rises low (s ∷ steps) = is_step low s && rises s.upto steps

-- at least one step and at most 4,000, which rise
abbrev pub is_table : List Step → Bool
is_table steps = rises 0 steps && nat_lt 0 (length steps) && nat_le (length steps) 4000

-- the greatest length
abbrev pub last_upto : List Step → ℕ
last_upto [] = 0
last_upto (s ∷ []) = s.upto
last_upto (s ∷ t ∷ steps) = last_upto (t ∷ steps)

-- the steps of rows, of which each has the greatest length of its step, and its share
abbrev pub steps_of : ℕ → List (ℕ × ℕ) → List Step
steps_of low [] = []
steps_of low (row ∷ rows) = record { above = low; upto = row.0; share = row.1 } ∷ steps_of row.0 rows

-- the rows of the five workloads
abbrev pub rows_of : ℕ → List (ℕ × ℕ)
rows_of n = if n == 1 then W1 else if n == 2 then W2 else if n == 3 then W3 else if n == 4 then W4 else W5

-- the sum of all shares
abbrev pub shares : List Step → ℕ
shares steps = sum_by (λ s. s.share) steps

-- ---- draws

-- the step in which a number below the sum of all shares falls: each takes as many numbers as it has shares
abbrev pub step_at : ℕ → List Step → Option Step
step_at at [] = None
step_at at (s ∷ steps) = if nat_lt at s.share then Some s else step_at (at - s.share) steps

-- one of a step's lengths, and the generator after it
abbrev pub length_of : Option Step → Lcg → ℕ × Lcg
length_of None g = (0, g)
length_of (Some s) g = let more = below (s.upto - s.above) g in (s.above + 1 + more.0, more.1)

-- a length, and the generator after it: the first draw says the step, and the second one which of its lengths
unfoldable pub length_drawn : List Step → Lcg → ℕ × Lcg
length_drawn steps g = let at = below (shares steps) g in length_of (step_at at.0 steps) at.1

-- the generator after so many lengths
unfoldable pub after_lengths : ℕ → List Step → Lcg → Lcg
after_lengths zero steps g = g
after_lengths (suc n) steps g = after_lengths n steps (length_drawn steps g).1

-- the bytes that messages of the next n lengths have on the wire
unfoldable pub wires_drawn : Cut → ℕ → List Step → Lcg → ℕ
wires_drawn cut zero steps g = 0
wires_drawn cut (suc n) steps g = let drawn = length_drawn steps g in wire cut drawn.0 + wires_drawn cut n steps drawn.1

-- ---- what a table says

-- 1000 times the mean of the bytes on the wire of a step's lengths, times its share; each length is as likely as any other
abbrev pub step_wire : Cut → Step → ℕ
step_wire cut s = (wire_up_to cut s.upto - wire_up_to cut s.above) * s.share * 1000 / (s.upto - s.above)

-- the mean of the bytes on the wire, in 1000ths
abbrev pub mean_wire : Cut → List Step → ℕ
mean_wire cut steps = sum_by (step_wire cut) steps / shares steps

-- the length at which so much is reached, where each step has so many times its share: within a step it grows as the length does
abbrev pub length_at : (parts left : ℕ) → List Step → ℕ
length_at parts left [] = 0
length_at parts left (s ∷ steps) =
    if nat_le left (s.share * parts) then s.above + div_ceil ((s.upto - s.above) * left) (s.share * parts)
    else length_at parts (left - s.share * parts) steps

-- the length up to which so many of so many parts of all shares are
abbrev pub bound_of : (part parts : ℕ) → List Step → ℕ
bound_of part parts steps = length_at parts (shares steps * part) steps
