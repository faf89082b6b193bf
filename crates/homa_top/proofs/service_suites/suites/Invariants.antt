use Rattle.std.specs.Prelude.{◌≡◌, length}
use Rattle.std.specs.List.{AllByRecursion}
use Rattle.homa_top.proofs.service_suites.suites.Given as goal

abbrev pub invariant-loop-made : goal.invariant-loop-made
invariant-loop-made l = (length l.all.items ≡ l.made) × AllByRecursion (λ n. n ≡ 0) l.all.items
