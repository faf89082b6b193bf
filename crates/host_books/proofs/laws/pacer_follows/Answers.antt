use Rattle.host_books.proofs.BookThings.{ready_book, ready_order}
use Rattle.host_books.proofs.laws.pacer_follows.Goals as goal

pub returns : goal.returns
returns c = record {
  book = λ place n old new book change stood. ready_book place n old new change stood book;
  order = λ place n old new book change stood. ready_order place n old new change stood book;
}
