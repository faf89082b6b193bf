-- What the moves of one item require and leave. No public contract cites this.
use Rattle.std.specs.Prelude.{◌≡◌, ◌≢◌, ℕ, ◌-◌, ◌/◌, ◌*◌, ◌<◌, ◌≤◌, true, false, List, length, take}
use Rattle.place_heap.specs.declared.cells.Cell.{Cell}
use Rattle.place_heap.specs.Order.{Item, is_before, ordered}
use Rattle.place_heap.specs.Held.{items_of, places_of, at, IsIndexed}

-- the place above another
abbrev pub parent : ℕ → ℕ
parent i = (i - 1) / 2

-- a does not stand before b
abbrev pub NotBefore : Item → Item → Type 0
NotBefore a b = is_before a b ≡ false

-- no item but the first stands before its parent's
abbrev pub InOrder : (ℕ → Item) → ℕ → Type 0
InOrder f len = (i : ℕ) → 0 < i → i < len → NotBefore (f i) (f (parent i))

-- heap order, except that the item at the hole may stand before its parent's
pub record MayGoUp (f : ℕ → Item) (len hole : ℕ) : Type 0 where
  pub parents : (i : ℕ) → 0 < i → i < len → i ≢ hole → NotBefore (f i) (f (parent i))
  pub over : (i : ℕ) → 0 < hole → 0 < i → i < len → parent i ≡ hole → NotBefore (f i) (f (parent hole))

-- heap order, except that items of the hole's children may stand before the one at the hole
pub record MayGoDown (f : ℕ → Item) (len hole : ℕ) : Type 0 where
  pub parents : (i : ℕ) → 0 < i → i < len → parent i ≢ hole → NotBefore (f i) (f (parent i))
  pub over : (i : ℕ) → 0 < hole → 0 < i → i < len → parent i ≡ hole → NotBefore (f i) (f (parent hole))

-- the item at a place lies there, and each slot stands where its cell says
pub record IsReady (cells : List Cell) (len from : ℕ) (item : Item) : Type 0 where
  pub small : length cells ≤ 8192
  pub within : len ≤ length cells
  pub inside : from < len
  pub lies : at (items_of cells) from ≡ item
  pub indexed : IsIndexed (items_of cells) (places_of cells) len

-- the heap is in order, except that the item may have to go up
pub record CanSiftUp (cells : List Cell) (len from : ℕ) (item : Item) : Type 0 where
  pub ready : IsReady cells len from item
  pub state : MayGoUp (at (items_of cells)) len from

-- the heap is in order, except that the item may have to go down
pub record CanSiftDown (cells : List Cell) (len from : ℕ) (item : Item) : Type 0 where
  pub ready : IsReady cells len from item
  pub state : MayGoDown (at (items_of cells)) len from

-- the heap is in order, except that the item went to the place of `had`, which was in order
pub record MayMove (cells : List Cell) (len from : ℕ) (had item : Item) : Type 0 where
  pub ready : IsReady cells len from item
  pub up : is_before item had ≡ true → MayGoUp (at (items_of cells)) len from
  pub down : is_before item had ≡ false → MayGoDown (at (items_of cells)) len from

-- the same items, in heap order
pub record IsSifted (old new : List Cell) (len : ℕ) : Type 0 where
  pub same_len : length new ≡ length old
  pub heap : InOrder (at (items_of new)) len
  pub indexed : IsIndexed (items_of new) (places_of new) len
  pub list : ordered (take len (items_of new)) ≡ ordered (take len (items_of old))

-- a child of the place i with its item, which the other child's does not stand before
pub record IsLeastChild (items : List Item) (len i child : ℕ) (item : Item) : Type 0 where
  pub below : 2 * i < child
  pub inside : child < len
  pub under : parent child ≡ i
  pub lies : at items child ≡ item
  pub least : (k : ℕ) → 0 < k → k < len → parent k ≡ i → NotBefore (at items k) (at items child)
