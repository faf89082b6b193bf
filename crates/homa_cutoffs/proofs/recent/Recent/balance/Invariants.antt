use Rattle.std.proofs.Common.{◌≡◌, ℕ, ◌<◌, get_or}
use Rattle.homa_plain.specs.Cutoffs.{bound_of_level}
use Rattle.homa_cutoffs.proofs.recent.Recent.balance.Given as goal

abbrev pub invariant-loop-level : goal.invariant-loop-level
invariant-loop-level l = (i : ℕ) → i < l.level → get_or l.bound-items i 0 ≡ bound_of_level l.k l.unsched l.self-inside.lengths.items i
