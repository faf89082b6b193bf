use Rattle.std.proofs.Common.{◌≡◌, ℕ, ◌++◌, take, drop}
use Rattle.plain_sets.specs.Ranges.{joined}
use Rattle.range_set.specs.Kept.{plain}
use Rattle.range_set.proofs.kept.count_below.Given as goal

abbrev pub invariant-loop-i : goal.invariant-loop-i
invariant-loop-i l = (b : ℕ) → joined l.a b (plain l.kept) ≡ plain (take l.i l.kept) ++ joined l.a b (plain (drop l.i l.kept))
