use Rattle.bench_books.proofs.Fills.{filled_changed}
use Rattle.bench_books.proofs.grants.by_grants.Goals as goal
use Rattle.bench_books.proofs.grants.by_grants.Goals.{in-Some, in_default}

pub rounds-preserved : goal.rounds-preserved
rounds-preserved c =
    elim c.match-choose.branch [
      | in-Some w ↦ rw (w.book-is, w.change.ensures.changed) (filled_changed _ _ c.rounds.book c.rounds.invariant)
      | in_default w ↦ rw w.book-is c.rounds.invariant
    ]
