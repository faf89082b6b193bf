-- What a buffered source still has to give.
use Rattle.std.specs.Prelude.{◌≡◌, ℕ, true, Option, List, [], ◌++◌}
use Rattle.homa_io.specs.Outside.{unread}
use Rattle.homa_plain.specs.Input.{has_no_feed}

-- the bytes that are pending in the buffer, and what the source has left, if it is observable
pub record Rest : Type 0 where
  pub pending : List ℕ
  pub left : Option (List ℕ)

-- these bytes were taken: some were pending, and the others came from the source
pub record Takes (old new : Rest) (taken : List ℕ) : Type 0 where
  pub came : List ℕ
  pub source : old.left ≡ unread came new.left
  pub bytes : old.pending ++ came ≡ taken ++ new.pending

-- bytes without a line feed were taken, and none is pending
pub record StopsInLine (old new : Rest) : Type 0 where
  pub taken : List ℕ
  pub takes : Takes old new taken
  pub one_line : has_no_feed taken ≡ true
  pub none_pending : new.pending ≡ []
