use Rattle.host_view.proofs.ByBook.{chosen-book}
use Rattle.host_view.proofs.laws.grants_by_book.Goals as goal

pub returns : goal.returns
returns c = chosen-book
