use Rattle.std.specs.Prelude.{◌≡◌, length}
use Rattle.std.specs.List.{AllByRecursion}
use Rattle.world_tests.proofs.world.two.Given as goal

abbrev pub invariant-loop-made : goal.invariant-loop-made
invariant-loop-made l = (length l.all.items ≡ l.made) × AllByRecursion (λ fickle. fickle.then ≡ 0) l.all.items
