use Rattle.std.proofs.Common.{◌≡◌, ℕ, ◌<◌, cond, ltb, get_or}
use Rattle.homa_cutoffs.proofs.levels.CutoffsLevels.first.Given as goal

abbrev pub invariant-loop-level : goal.invariant-loop-level
invariant-loop-level l = (i : ℕ) → i < l.level → get_or l.bound-items i 0 ≡ cond (ltb i l.k) 0 1000000
