-- The rows of a host: the calls that it made, as their client, and the calls that it serves.
use Rattle.std.specs.Prelude.{ℕ, Option, None, Some, List}
use Rattle.plain_sets.specs.Maps.{Map, insert, remove}
use Rattle.homa_plain.specs.declared.id.CallId.{CallId}
use Rattle.homa_plain.specs.declared.id.HostId.{HostId}
use Rattle.homa_plain.specs.Calls.{call_cmp}
use Rattle.homa_plain.specs.Incoming.{Incoming}
use Rattle.homa_plain.specs.Outgoing.{Outgoing}

-- what a client remembers of a call
pub record ClientRow : Type 0 where
  pub server : HostId
  pub service : ℕ
  pub request : List ℕ
  pub order : ℕ  -- rows that were opened earlier have lower numbers
  pub out : Outgoing  -- the request, as far as it was sent
  pub heard : ℕ  -- when the server was last heard of, or a new piece of the request was sent
  pub base : ℕ  -- from when on the timer counts
  pub count : ℕ  -- how many RESENDs there were since something came that renews the call
  pub seen : ℕ  -- the greatest incarnation of the server that was seen, 0 before the first
  pub part : Option Incoming  -- the response, as far as it arrived

-- how far a server is with a call
pub data State : Type 0 where
  Receiving : (service : ℕ) (part : Incoming) (base count : ℕ) → State
  Held : (response : List ℕ) (release : ℕ) → State
  Replying : (response : List ℕ) (out : Outgoing) (order base count : ℕ) → State
  Buried : (until : ℕ) → State

-- what a server remembers of a call
pub record ServerRow : Type 0 where
  pub order : ℕ
  pub state : State

-- rows by their calls
abbrev pub RowsOf : Type 0 → Type 0
RowsOf R = Map call_cmp R

-- the rows where a call has this row, or none
abbrev pub set_row : {R : Type 0} → RowsOf R → CallId → Option R → RowsOf R
set_row rows id None = remove rows id
set_row rows id (Some row) = insert rows id row
