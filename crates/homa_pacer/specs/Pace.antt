-- What a pacer is seen as: the messages that may be sent, and how many bytes may still go out.
use Rattle.std.specs.Prelude.{◌≡◌, ℕ, ◌<◌, ◌≤◌, ◌==◌, not, nat_lt, if◌then◌else◌, List, length, map}
use Rattle.std.specs.List.{AllByRecursion, filter}
use Rattle.plain_sets.specs.Ordered.{IsInOrder, SendersDiffer as AllDiffer}
use Rattle.place_heap.specs.Order.{Item}
use Rattle.place_heap.specs.Held.{Held, list_of}

-- a message that may be sent
pub record Ready : Type 0 where
  pub slot : ℕ
  pub left : ℕ  -- how many of its bytes are left to be sent
  pub order : ℕ  -- of two with as many bytes left the one with the lower number is sent first

-- the key by which messages are sent: the bytes left, and then the order
abbrev pub ready_key : Ready → ℕ × ℕ
ready_key r = (r.left, r.order)

-- a pacer
pub record Pace : Type 0 where
  pub slots : ℕ  -- how many slots there are
  pub rate : ℕ  -- to how many bytes the credit is filled up
  pub credit : ℕ  -- how many of them may still be sent
  pub refilled : ℕ  -- the tick in which the credit was refilled last
  pub ready : List Ready  -- the messages that may be sent, in order

-- the messages but that of a slot
abbrev pub without : ℕ → List Ready → List Ready
without slot ready = filter (λ r. not (r.slot == slot)) ready

-- only this slot's message may have this order
abbrev pub IsOwnOrder : ℕ → ℕ → List Ready → Type 0
IsOwnOrder slot order ready = AllByRecursion (λ r. r.order ≡ order → r.slot ≡ slot) ready

-- a pacer in tick `now`: a later tick than that of the last refill has its own credit, and nothing is left of the one before
abbrev pub refill : ℕ → Pace → Pace
refill now p = if nat_lt p.refilled now then record p { credit = p.rate; refilled = now } else p

-- the messages are of slots below the number of slots, are in order, and differ in slots and in orders; the credit is at most the rate
pub record IsSound (p : Pace) : Type 0 where
  pub within : AllByRecursion (λ r. r.slot < p.slots) p.ready
  pub in_order : IsInOrder ready_key p.ready
  pub slots : AllDiffer (λ r. r.slot) p.ready
  pub orders : AllDiffer (λ r. r.order) p.ready
  pub credit : p.credit ≤ p.rate

-- a message as a heap has it
abbrev pub item_of : Ready → Item
item_of r = (r.slot, record { first = r.left; second = r.order })

-- an item of a heap as a message
abbrev pub ready_of : Item → Ready
ready_of x = record { slot = x.0; left = x.1.first; order = x.1.second }

-- the pacer that a heap and its numbers stand for
abbrev pub pace_by : Held → ℕ → ℕ → ℕ → Pace
pace_by heap rate credit refilled =
    record { slots = length heap.cells; rate = rate; credit = credit; refilled = refilled; ready = map ready_of (list_of heap) }
