use Rattle.host_view.proofs.ByBook.{first_due-book}
use Rattle.host_view.proofs.laws.due_by_book.Goals as goal

pub returns : goal.returns
returns c = first_due-book
