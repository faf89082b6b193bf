-- Ticks that never fall, one after another.
use Rattle.std.proofs.Common.{◌≡◌, ◌<◌, ◌≤◌, ℕ, ◌+◌, zero, suc, arith, List, [], ◌∷◌, length, drop, get_or}
use Rattle.node_runs.specs.Course.{AreTicks}

-- the ticks so far never fall, if those behind them don't
abbrev pub GoesOn : List ℕ → ℕ → ℕ → Type 0
GoesOn ticks i last = AreTicks last (drop i ticks) → AreTicks 0 ticks
