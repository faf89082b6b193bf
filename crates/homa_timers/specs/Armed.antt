-- The timers that are armed, and what a book of them is seen as.
use Rattle.std.specs.Prelude.{◌≡◌, ℕ, ◌<◌, ◌==◌, not, List, length, map}
use Rattle.std.specs.List.{AllByRecursion, filter}
use Rattle.plain_sets.specs.Ordered.{IsInOrder, SendersDiffer as AllDiffer}
use Rattle.place_heap.specs.Order.{Item}
use Rattle.place_heap.specs.Held.{Held, list_of}

-- the timer of a slot
pub record Timer : Type 0 where
  pub slot : ℕ
  pub at : ℕ  -- its deadline, in ticks
  pub order : ℕ  -- of two with one deadline the one with the lower number is due first

-- the key by which timers are due: the deadline, and then the order
abbrev pub timer_key : Timer → ℕ × ℕ
timer_key t = (t.at, t.order)

-- how many slots there are, and the timers that are armed, in order
pub record Armed : Type 0 where
  pub slots : ℕ
  pub timers : List Timer

-- the timers but that of a slot
abbrev pub without : ℕ → List Timer → List Timer
without slot timers = filter (λ t. not (t.slot == slot)) timers

-- only this slot's timer may have this order
abbrev pub IsOwnOrder : ℕ → ℕ → List Timer → Type 0
IsOwnOrder slot order timers = AllByRecursion (λ t. t.order ≡ order → t.slot ≡ slot) timers

-- no timer has come to its deadline
abbrev pub NoneDue : ℕ → List Timer → Type 0
NoneDue now timers = AllByRecursion (λ t. now < t.at) timers

-- the timers are of slots below the number of slots, are in order, and differ in slots and in orders
pub record IsSound (a : Armed) : Type 0 where
  pub within : AllByRecursion (λ t. t.slot < a.slots) a.timers
  pub in_order : IsInOrder timer_key a.timers
  pub slots : AllDiffer (λ t. t.slot) a.timers
  pub orders : AllDiffer (λ t. t.order) a.timers

-- a timer as a heap has it
abbrev pub item_of : Timer → Item
item_of t = (t.slot, record { first = t.at; second = t.order })

-- an item of a heap as a timer
abbrev pub timer_of : Item → Timer
timer_of x = record { slot = x.0; at = x.1.first; order = x.1.second }

-- the timers that a heap stands for
abbrev pub armed_by : Held → Armed
armed_by heap = record { slots = length heap.cells; timers = map timer_of (list_of heap) }
