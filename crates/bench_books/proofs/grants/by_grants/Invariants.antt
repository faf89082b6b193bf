use Rattle.bench_books.specs.Filled.{IsFilled}
use Rattle.bench_books.proofs.grants.by_grants.Given as goal

abbrev pub invariant-fills : goal.invariant-fills
invariant-fills l = IsFilled l.book

abbrev pub invariant-rounds : goal.invariant-rounds
invariant-rounds l = IsFilled l.book
