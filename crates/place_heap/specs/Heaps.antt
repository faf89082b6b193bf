-- Heaps whose cells lie in one block.
use Rattle.std.specs.Prelude.{◌≡◌, ℕ, ◌-◌, ◌<◌, ◌≤◌, false, List, [], length, replicate, Option, slice_index_or}
use Rattle.std.specs.List.{AllByRecursion}
use denote.RawPtr.{null_ptr}
use Rattle.place_heap.specs.declared.cells.Base.{Base}
use Rattle.place_heap.specs.declared.cells.Cell.{Cell}
use Rattle.place_heap.specs.declared.key.Key.{Key}
use Rattle.place_heap.specs.Order.{replaced}
use Rattle.place_heap.specs.Held.{Held, list_of, IsKept}
use Rattle.place_heap.specs.Cells.{blanks}

-- heaps in one block, for how many there is room, and how many cells each has
pub record Heaps : Type 0 where
  pub list : List Held
  pub many : ℕ
  pub cap : ℕ

-- a heap without cells
abbrev pub no_heap : Held
no_heap = record { cells = []; len = 0; spot = record { base = record { ptr = null_ptr; first = 0; stride = 0 }; frees = false } }

-- a heap of so many slots that holds none
pub record IsEmpty (cap : ℕ) (heap : Held) : Type 0 where
  pub cells : length heap.cells ≡ cap
  pub list : list_of heap ≡ []
  pub kept : IsKept heap

-- a heap in which a slot was given this key, or taken out
pub record IsReplaced (slot : ℕ) (key : Option Key) (old new : Held) : Type 0 where
  pub list : list_of new ≡ replaced slot key (list_of old)
  pub cells : length new.cells ≡ length old.cells

-- the heap of this number in a block of heaps of so many cells
pub record IsAt (cap : ℕ) (base : Base) (i : ℕ) (heap : Held) : Type 0 where
  pub spot : heap.spot ≡ record { base = record base { first = i }; frees = false }
  pub cells : length heap.cells ≡ cap

-- each heap is that of its number
abbrev pub AreAt : ℕ → Base → List Held → Type 0
AreAt cap base heaps = (i : ℕ) → i < length heaps → IsAt cap base i (slice_index_or heaps i no_heap)

-- the heaps lie in their block before what is left of it
pub record AreBefore (heaps : List Held) (base : Base) (cap : ℕ) (strips : List (List (Option Cell))) : Type 0 where
  pub each : AreAt cap base heaps
  pub before : base.first ≡ length heaps
  pub even : AllByRecursion (λ (cells : List (Option Cell)). length cells ≡ cap) strips

-- the heaps lie in the block of the base, and what is left of it are cells that were not written
pub record AreLaid (heaps : List Held) (base : Base) (many cap : ℕ) (next : Base) (len : ℕ) (strips : List (List (Option Cell))) : Type 0 where
  pub each : AreAt cap base heaps
  pub first : base.first ≡ 0
  pub stride : base.stride ≡ many
  pub within : length heaps ≤ many
  pub few : many ≤ 32
  pub small : cap ≤ 8192
  pub next_is : next ≡ record base { first = length heaps }
  pub len_is : len ≡ cap
  pub left : strips ≡ replicate (many - length heaps) (blanks cap)
