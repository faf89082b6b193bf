-- A book of messages that the program has filled.
use Rattle.std.specs.Prelude.{◌≡◌}
use Rattle.std.specs.List.{AllByRecursion}
use Rattle.homa_grants.specs.Books.{Book}

-- a book of as many slots and hosts as the program opens it with, in which the order of a message is its slot
pub record IsFilled (b : Book) : Type 0 where
  pub slots : b.slots ≡ 1280
  pub hosts : b.hosts ≡ 32
  pub orders : AllByRecursion (λ e. e.order ≡ e.slot) b.entries
