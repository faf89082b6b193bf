use Rattle.std.proofs.Common.{ℕ, ◌<◌, ◌≤◌, get_or}
use Rattle.homa_cutoffs.proofs.levels.CutoffsLevels.level.Given as goal

abbrev pub invariant-loop-level : goal.invariant-loop-level
invariant-loop-level l = record {
  from : l.k ≤ l.level;
  to : l.level ≤ 7;
  exceeded : (j : ℕ) → l.level < j → j ≤ 7 → get_or l.self.upto j 0 < l.len;
}

abbrev pub decreases-loop-level : goal.decreases-loop-level
decreases-loop-level l = l.level
