use Rattle.host_books.proofs.Rebooked.{rebooked, rebooked_own}
use Rattle.host_books.proofs.laws.books_follow.Goals as goal

pub returns : goal.returns
returns c = record {
  own = λ place n old new b change stood own are. rebooked_own place n old new change stood own b are;
  books = λ place n old new b change stood own are. rebooked place n old new change stood own b are;
}
