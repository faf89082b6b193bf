-- What a block of cells is seen as.
use Rattle.std.specs.Prelude.{◌≡◌, ℕ, ◌+◌, ◌==◌, if◌then◌else◌, ◌<◌, ◌≤◌, List, [], length, replicate, map, Option, Some, None, Bool, slice_index}
use Rattle.std.specs.Prelude.{slice_index_or}
use Rattle.std.specs.List.{range_with_len, AllByRecursion}
use Rattle.place_heap.specs.declared.cells.Cell.{Cell}
use Rattle.place_heap.specs.declared.cells.Base.{Base}
use Rattle.place_heap.specs.Held.{Laid}

-- a cell with no item, whose slot is absent from a heap of this many cells
abbrev pub unused_cell : ℕ → Cell
unused_cell cap = record { key = record { first = 0; second = 0 }; slot = 0; at = cap }

-- the cell at a place
abbrev pub cell_at : List Cell → ℕ → Cell
cell_at cells i = slice_index_or cells i (unused_cell 0)

-- where a mark says that a slot is in a heap of this many cells: 254 says that it is absent
abbrev pub noted_place : ℕ → ℕ → ℕ
noted_place cap mark = if mark == 254 then cap else mark

-- the cell that a place shows, with its mark: what was written, or a cell with no item whose slot is where the mark says
abbrev pub shown : ℕ → ℕ → Option Cell → Cell
shown cap mark (Some cell) = cell
shown cap mark None = unused_cell (noted_place cap mark)

-- the cells that so many places show
abbrev pub values_of : List ℕ → List (Option Cell) → ℕ → List Cell
values_of marks places cap = map (λ i. shown cap (slice_index marks i) (slice_index_or places i None)) (range_with_len 0 cap)

-- a place was written where its mark says so, which is 255
abbrev pub IsMarked : ℕ → Option Cell → Type 0
IsMarked mark (Some cell) = mark ≡ 255
IsMarked mark None = mark < 255

-- there is a mark for each of `cap` places
pub record IsWritten (marks : List ℕ) (places : List (Option Cell)) (cap : ℕ) : Type 0 where
  pub len : length places ≡ cap
  pub small : cap ≤ 8192
  pub many : length marks ≡ cap
  pub marked : (i : ℕ) → i < cap → IsMarked (slice_index marks i) (slice_index_or places i None)

-- a base near the front of its block, with few cells of other heaps between its own
pub record IsNear (base : Base) : Type 0 where
  pub first : base.first < 32
  pub stride : base.stride ≤ 32

-- the base of the heap after this one
abbrev pub after : Base → Base
after base = record base { first = base.first + 1 }

-- cells that were not written
abbrev pub blanks : ℕ → List (Option Cell)
blanks len = replicate len None

-- so many heaps of so many cells
pub record IsWhole (heaps len : ℕ) (strips : List (List (Option Cell))) : Type 0 where
  pub many : length strips ≡ heaps
  pub even : AllByRecursion (λ (cells : List (Option Cell)). length cells ≡ len) strips

-- what is left of a block of one heap without its cells, which is the right to free it
pub record IsRight (base : Base) (cap : ℕ) (next : Base) (count : ℕ) (strips : List (List (Option Cell))) : Type 0 where
  pub next_is : next ≡ after base
  pub first : base.first ≡ 0
  pub alone : base.stride ≡ 1
  pub len : count ≡ cap
  pub empty : strips ≡ []

-- the cells of a heap lie in their block where the base says, and as their marks say
pub record AreCells (base : Base) (marks : List ℕ) (there : Base) (slots : List (Option Cell)) (cap : ℕ) : Type 0 where
  pub lies : there ≡ base
  pub near : IsNear base
  pub written : IsWritten marks slots cap

-- what the cells of a heap are seen as
abbrev pub laid : List ℕ → Base → List (Option Cell) → Bool → ℕ → Laid
laid marks base slots frees cap = record { list = values_of marks slots cap; spot = record { base = base; frees = frees } }
