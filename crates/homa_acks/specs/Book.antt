-- The finished calls of a client, of which their servers weren't told yet.
use Rattle.std.specs.Prelude.{ℕ, ◌<◌, List, [], length, All, slice_index_or}

-- a call, as an incarnation and a sequence number of the client
abbrev pub Call : Type 0
Call = ℕ × ℕ

-- the finished calls of a peer, the oldest first
abbrev pub calls_of : List (List Call) → ℕ → List Call
calls_of book peer = slice_index_or book peer []

-- no peer has five calls
abbrev pub IsBelowFive : List (List Call) → Type 0
IsBelowFive book = All (λ calls. length calls < 5) book
