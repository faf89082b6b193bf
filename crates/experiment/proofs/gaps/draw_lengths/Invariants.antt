-- The lengths that are left.
use Rattle.std.proofs.Common.{◌≡◌, ◌-◌}
use Rattle.experiment.specs.Tables.{after_lengths}
use Rattle.experiment.proofs.gaps.draw_lengths.Given as goal

abbrev pub invariant-lengths : goal.invariant-lengths
invariant-lengths l = after_lengths (l.n - l.counter) l.workload l.draws ≡ after_lengths l.n l.workload l.initial.draws
