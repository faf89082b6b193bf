use Rattle.host_books.proofs.PageSums.{pages_changed, pages_free}
use Rattle.host_books.proofs.laws.pages_follow.Goals as goal

pub returns : goal.returns
returns c = record { changed = pages_changed; free = pages_free }
