use Rattle.bench_books.proofs.Fills.{own_order, filled_entered}
use Rattle.bench_books.proofs.grants.enter.Goals as goal

pub enter-requires-clause-order : goal.enter-requires-clause-order
enter-requires-clause-order c = rw c.from.ensures (own_order c.args.slot c.args.book.now c.requires.filled)

pub returns : goal.returns
returns c = rw c.enter.ensures.entered (filled_entered c.args.book.now _ c.from.ensures c.requires.filled)
