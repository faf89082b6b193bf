use Rattle.host_books.proofs.BookThings.{armed_book, armed_order}
use Rattle.host_books.proofs.laws.timers_follow.Goals as goal

pub returns : goal.returns
returns c = record {
  book = λ place n old new book change stood. armed_book place n old new change stood book;
  order = λ place n old new book change stood. armed_order place n old new change stood book;
}
