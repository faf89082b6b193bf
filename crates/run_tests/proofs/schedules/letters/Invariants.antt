use Rattle.std.specs.Prelude.{◌≡◌, length}
use Rattle.std.specs.List.{AllByRecursion}
use Rattle.run_tests.proofs.schedules.letters.Given as goal

-- so many were made, and none has answered
abbrev pub invariant-loop-made : goal.invariant-loop-made
invariant-loop-made l = (length l.all.items ≡ l.made) × AllByRecursion (λ it. it.served ≡ 0) l.all.items
