use Rattle.host_books.proofs.Tables.{has_places}
use Rattle.host_books.proofs.laws.rows_have_places.Goals as goal

pub returns : goal.returns
returns c = λ room rows f placed. has_places f room rows placed
