use Rattle.std.proofs.Common.{◌≡◌, length}
use Rattle.std.specs.List.{AllByRecursion}
use Rattle.simulation.proofs.services.suites.Given as goal

abbrev pub invariant-loop-made : goal.invariant-loop-made
invariant-loop-made l = (length l.all.items ≡ l.made) × AllByRecursion (λ n. n ≡ 0) l.all.items
