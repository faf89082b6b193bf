-- A rule for one row: it maps a `Moment`, what it may look at, to a `Did`, what it changes and tells.
use Rattle.std.specs.Prelude.{ℕ, ◌+◌, ◌==◌, Bool, false, if◌then◌else◌, Option, None, Some, List, []}
use Rattle.homa_plain.specs.declared.id.HostId.{HostId}
use Rattle.homa_plain.specs.declared.packet.Body.{Body}
use Rattle.homa_plain.specs.Entries.{PlainEntry}

-- what a rule knows of its host
pub record Moment : Type 0 where
  pub host : HostId
  pub now : ℕ  -- the host's own clock
  pub order : ℕ  -- the number of whatever is opened next
  pub free : ℕ  -- the pages that the messages of other calls leave free
  pub rows : ℕ  -- how many calls it serves, those that are buried with them

-- what a service answers
pub record Answer : Type 0 where
  pub bytes : List ℕ
  pub hold : ℕ  -- for how many ticks the response is held back

-- a piece of a message
pub record Piece : Type 0 where
  pub size : ℕ  -- how many bytes the message has
  pub offset : ℕ
  pub version : ℕ  -- the version of the cutoffs by which its sender chose the level
  pub service : ℕ
  pub payload : List ℕ

-- an entry of the trace, or the body of a packet of the row's call, which is sent at level 7
pub data Say : Type 0 where
  Tells : (entry : PlainEntry) → Say
  Posts : (body : Body) → Say

-- the row afterwards, if there is one, and what else comes of a rule
pub record Did (R : Type 0) : Type 0 where
  pub row : Option R
  pub order : ℕ  -- the number of whatever is opened next
  pub opened : Option ℕ  -- how many bytes a message has that was opened
  pub version : Option ℕ  -- the cutoffs' version in a message's first piece, where it was taken up
  pub says : List Say
  pub finished : Bool  -- whether the call is done at its client

module _ {R : Type 0} (m : Moment) where
  -- the row, and nothing else
  abbrev pub leaves : Option R → Did R
  leaves row = record { row = row; order = m.order; opened = None; version = None; says = []; finished = false }

  -- there is this row, and nothing else
  abbrev pub keeps : R → Did R
  keeps row = leaves (Some row)

  -- the row, and something is said
  abbrev pub says : Option R → List Say → Did R
  says row said = record (leaves row) { says = said }

-- a message of n bytes was opened, which took an order number
abbrev pub opening : {R : Type 0} → ℕ → Did R → Did R
opening n d = record d { order = d.order + 1; opened = Some n }

-- the version of the cutoffs in a first piece, which is compared with the receiver's
abbrev pub version_of : Piece → Option ℕ
version_of p = if p.offset == 0 then Some p.version else None
