use Rattle.host_books.proofs.Changing.{books_stay}
use Rattle.host_books.proofs.laws.books_stay.Goals as goal

pub returns : goal.returns
returns c = books_stay
