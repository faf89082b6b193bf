-- The messages of a book.
use Rattle.std.specs.Prelude.{◌≡◌, ℕ, ◌==◌, not, filter, find, Option, None, Some, List}
use Rattle.std.specs.List.{AllByRecursion}
use Rattle.plain_sets.specs.Ordered.{placed}

-- an incoming message that isn't whole
pub record Entry : Type 0 where
  pub slot : ℕ  -- the place of its row
  pub peer : ℕ  -- its sender
  pub remaining : ℕ  -- how many of its bytes are missing
  pub order : ℕ  -- messages that were opened earlier have lower numbers

-- the key by which messages are chosen
abbrev pub entry_key : Entry → ℕ × ℕ
entry_key e = (e.remaining, e.order)

-- the sender of a message
abbrev pub entry_peer : Entry → ℕ
entry_peer e = e.peer

-- the messages of a peer
abbrev pub entries_of : ℕ → List Entry → List Entry
entries_of peer = filter (λ e. e.peer == peer)

-- the messages but that of a slot
abbrev pub without : ℕ → List Entry → List Entry
without slot = filter (λ e. not (e.slot == slot))

-- the message of a slot, if there is one
abbrev pub entry_of : ℕ → List Entry → Option Entry
entry_of slot = find (λ e. e.slot == slot)

-- messages in order with one more in its place, if there is one
abbrev pub placed_if : Option Entry → List Entry → List Entry
placed_if None entries = entries
placed_if (Some e) entries = placed entry_key e entries

-- a message in its place, and no other of its slot
abbrev pub entered : Entry → List Entry → List Entry
entered e entries = placed entry_key e (without e.slot entries)

-- the messages, where this one of them has another number of missing bytes
abbrev pub with_remaining : ℕ → Option Entry → List Entry → List Entry
with_remaining remaining None entries = entries
with_remaining remaining (Some e) entries = entered (record e { remaining = remaining }) entries

-- only this slot's message may have this order
abbrev pub IsOwnOrder : ℕ → ℕ → List Entry → Type 0
IsOwnOrder slot order = AllByRecursion (λ e. e.order ≡ order → e.slot ≡ slot)
