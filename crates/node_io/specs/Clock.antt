-- What a clock gives.
use Rattle.std.specs.Prelude.{◌≤◌, ◌<◌, ℕ, Option, None, Some, List, [], ◌∷◌, length, slice_index_or}
use Rattle.homa_plain.specs.World.{last_tick}

-- the tick that it gives next
abbrev pub next_tick : List ℕ → ℕ
next_tick [] = 0
next_tick (tick ∷ ticks) = tick

-- what it gives after that: the last tick it gives for ever
abbrev pub ticks_after : List ℕ → List ℕ
ticks_after [] = []
ticks_after (tick ∷ []) = tick ∷ []
ticks_after (tick ∷ next ∷ ticks) = next ∷ ticks

-- what it gives after that, where it can tell
abbrev pub if_ticks : Option (List ℕ) → Option (List ℕ)
if_ticks None = None
if_ticks (Some ticks) = Some (ticks_after ticks)

-- ticks never fall, and none is above the clock's last one
pub record Rises (ticks : List ℕ) : Type 0 where
  pub never_fall : (i j : ℕ) → i ≤ j → j < length ticks → slice_index_or ticks i 0 ≤ slice_index_or ticks j 0
  pub most : (i : ℕ) → i < length ticks → slice_index_or ticks i 0 ≤ last_tick
