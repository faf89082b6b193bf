-- Ticks of a clock, one by one and by their places.
use Rattle.std.proofs.Common.{◌≤◌, ◌<◌, ℕ, zero, suc, List, [], ◌∷◌, length, slice_index_or, arith}
use Rattle.homa_plain.specs.World.{last_tick}
use Rattle.node_runs.specs.Course.{AreTicks}
use Rattle.node_io.specs.Clock.{Rises}

at_least : (least : ℕ) (ticks : List ℕ) → AreTicks least ticks → (j : ℕ) → j < length ticks → least ≤ slice_index_or ticks j 0
at_least least [] h j within = absurd (omega (arith, within))
at_least least (tick ∷ ticks) h zero within = h.0
at_least least (tick ∷ ticks) h (suc j) within = omega (arith, h.0, at_least tick ticks h.2 j (omega (arith, within)))

never_fall : (least : ℕ) (ticks : List ℕ) → AreTicks least ticks → (i j : ℕ) → i ≤ j → j < length ticks → slice_index_or ticks i 0 ≤ slice_index_or ticks j 0
never_fall least [] h i j le within = absurd (omega (arith, within))
never_fall least (tick ∷ ticks) h zero zero le within = omega arith
never_fall least (tick ∷ ticks) h zero (suc j) le within = at_least tick ticks h.2 j (omega (arith, within))
never_fall least (tick ∷ ticks) h (suc i) zero le within = absurd (omega (arith, le))
never_fall least (tick ∷ ticks) h (suc i) (suc j) le within = never_fall tick ticks h.2 i j (omega (arith, le)) (omega (arith, within))

most : (least : ℕ) (ticks : List ℕ) → AreTicks least ticks → (i : ℕ) → i < length ticks → slice_index_or ticks i 0 ≤ last_tick
most least [] h i within = absurd (omega (arith, within))
most least (tick ∷ ticks) h zero within = h.1
most least (tick ∷ ticks) h (suc i) within = most tick ticks h.2 i (omega (arith, within))

pub rises : (ticks : List ℕ) → AreTicks 0 ticks → Rises ticks
rises ticks h = record { never_fall = never_fall 0 ticks h; most = most 0 ticks h }
