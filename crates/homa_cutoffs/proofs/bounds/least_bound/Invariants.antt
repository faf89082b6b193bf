use Rattle.std.proofs.Common.{◌≡◌, true}
use Rattle.homa_plain.specs.Cutoffs.{has_share}
use Rattle.homa_cutoffs.proofs.Candidates.{Lowest}
use Rattle.homa_cutoffs.proofs.bounds.least_bound.Given as goal

abbrev pub invariant-loop-n : goal.invariant-loop-n
invariant-loop-n l = record {
  passes : has_share l.m l.unsched l.lengths.items l.j l.least ≡ true;
  lowest : Lowest (has_share l.m l.unsched l.lengths.items l.j) l.lengths.items l.n-iterator l.least;
}
