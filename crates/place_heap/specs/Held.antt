-- What a heap holds, and how it lies in its cells.
use Rattle.std.specs.Prelude.{◌≡◌, ℕ, ◌-◌, ◌/◌, ◌<◌, ◌≤◌, Bool, true, List, length, map, take, slice_index, slice_index_or}
use Rattle.place_heap.specs.declared.cells.Base.{Base}
use Rattle.place_heap.specs.declared.cells.Cell.{Cell}
use Rattle.place_heap.specs.Order.{Item, is_before, ordered}

-- where the cells of a heap lie, and whether it frees their block
pub record Spot : Type 0 where
  pub base : Base
  pub frees : Bool

-- cells, and where they lie
pub record Laid : Type 0 where
  pub list : List Cell
  pub spot : Spot

-- the cells of a heap, how many items it has, and where the cells lie
pub record Held : Type 0 where
  pub cells : List Cell
  pub len : ℕ
  pub spot : Spot

-- the item that lies in each place
abbrev pub items_of : List Cell → List Item
items_of cells = map (λ c. (c.slot, c.key)) cells

-- the place of each slot
abbrev pub places_of : List Cell → List ℕ
places_of cells = map (λ c. c.at) cells

-- the item in a place
abbrev pub at : List Item → ℕ → Item
at items i = slice_index_or items i (0, record { first = 0; second = 0 })

-- the first so many items of cells, in order
unfoldable pub listed : List Cell → ℕ → List Item
listed cells len = ordered (take len (items_of cells))

-- the items of a heap in order
abbrev pub list_of : Held → List Item
list_of h = listed h.cells h.len

-- the item in each place but the first stands after that of its parent
abbrev pub IsHeap : List Item → ℕ → Type 0
IsHeap items len = (i : ℕ) → 0 < i → i < len → is_before (at items ((i - 1) / 2)) (at items i) ≡ true

-- the first `len` items are of slots that stand where they lie; another slot's place is the number of cells
pub record IsIndexed (items : List Item) (places : List ℕ) (len : ℕ) : Type 0 where
  pub slots : (i : ℕ) → i < len → (at items i).0 < length places
  pub stands : (i : ℕ) → i < len → slice_index places (at items i).0 ≡ i
  pub present : (slot : ℕ) → slot < length places → slice_index places slot < len → (at items (slice_index places slot)).0 ≡ slot
  pub absent : (slot : ℕ) → slot < length places → len ≤ slice_index places slot → slice_index places slot ≡ length places

-- how so many items lie in cells
pub record AreKept (cells : List Cell) (len : ℕ) : Type 0 where
  pub small : length cells ≤ 8192
  pub within : len ≤ length cells
  pub heap : IsHeap (items_of cells) len
  pub indexed : IsIndexed (items_of cells) (places_of cells) len

-- how a heap lies in its cells
abbrev pub IsKept : Held → Type 0
IsKept h = AreKept h.cells h.len
