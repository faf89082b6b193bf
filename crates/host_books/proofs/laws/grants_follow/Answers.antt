use Rattle.host_books.proofs.BookThings.{entered_book, entered_order}
use Rattle.host_books.proofs.laws.grants_follow.Goals as goal

pub returns : goal.returns
returns c = record {
  book = λ place n old new book change stood. entered_book place n old new change stood book;
  order = λ place n old new book change stood. entered_order place n old new change stood book;
}
