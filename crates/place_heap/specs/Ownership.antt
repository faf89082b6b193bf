-- What the owner of a block owns, and what a `&` to it lends.
use Rattle.std.specs.Prelude.{ℕ, ◌+◌, ◌*◌, List, [], ◌∷◌, Option, Some, None}
use base.Fraction.{full_share}
use base.Fml.{Lft, Fml, ftrue, ffalse, fsep, fex, froom}
use mir.Syntax.{Ty, ty_array}
use mir.Raw.{raw}
use denote.Memory.{lone, part_at, shared_of}
use denote.Sharing.{nothing, said, beside}
use denote.RawPtr.{Ptr, block_ptr, null_ptr}
use Rattle.std.specs.Mem.{type_size}
use Rattle.std_heap.specs.declared.Global.{Global}
use Rattle.std_heap.specs.contracts.GlobalAllocator.TheImpl.{ghosts}
use Rattle.place_heap.specs.contracts.cells.Cell.{the_row as C}
use Rattle.place_heap.specs.declared.cells.Base.{Base}
use Rattle.place_heap.specs.declared.cells.Cell.{Cell}

-- one cell at the offset o of the block b: room, or a value
abbrev pub place : ℕ → ℕ → Option Cell → Fml
place b o None = froom (raw (lone C.mir)) b o
place b o (Some x) = part_at C full_share x b o

-- cells of which each lies s cells behind the one before
abbrev pub places : ℕ → ℕ → ℕ → List (Option Cell) → Fml
places b o s [] = ftrue
places b o s (c ∷ cs) = fsep (place b o c) (places b (o + s * type_size C) s cs)

-- the cells of heaps whose first cells lie side by side
abbrev pub strips : ℕ → ℕ → ℕ → List (List (Option Cell)) → Fml
strips b o s [] = ftrue
strips b o s (cs ∷ css) = fsep (places b o s cs) (strips b (o + type_size C) s css)

-- the type that a block of n cells is allocated for
abbrev pub block_ty : ℕ → Ty
block_ty n = raw (ty_array (lone C.mir) n)

-- the right to free a block, by some handle to the allocator
abbrev pub may_free : Ty → Ptr → Fml
may_free τ p = fex Global (λ alloc. ghosts.dealloc_token alloc τ p)

-- the cells of a heap whose block begins at a place
abbrev pub cells_at : Ptr → ℕ → ℕ → List (Option Cell) → Fml
cells_at null_ptr k s cs = ffalse
cells_at (block_ptr b o) k s cs = places b (k * type_size C + o) s cs

-- the cells of a heap
abbrev pub block_owns : Base → List (Option Cell) → Fml
block_owns base = cells_at base.ptr base.first base.stride

-- the cells of the heaps from the k-th on of a block of s heaps of n cells, and the right to free it
abbrev pub pile_at : Ptr → ℕ → ℕ → ℕ → List (List (Option Cell)) → Fml
pile_at null_ptr k s n css = ffalse
pile_at (block_ptr b o) k s n css = fsep (strips b (k * type_size C + o) s css) (may_free (block_ty (n * s)) (block_ptr b o))

-- the cells of the heaps from a base on, and the right to free their block
abbrev pub pile_owns : Base → ℕ → List (List (Option Cell)) → Fml
pile_owns base = pile_at base.ptr base.first base.stride

-- one cell of a block that is borrowed by `&`
abbrev pub place_lent : ℕ → ℕ → Option Cell → Lft → Fml
place_lent b o None = nothing
place_lent b o (Some x) = shared_of C x b o

-- cells of a block that is borrowed by `&`, of which each lies s cells behind the one before
abbrev pub places_lent : ℕ → ℕ → ℕ → List (Option Cell) → Lft → Fml
places_lent b o s [] = nothing
places_lent b o s (c ∷ cs) = beside (place_lent b o c) (places_lent b (o + s * type_size C) s cs)

-- the cells of a heap whose block begins at a place and is borrowed by `&`
abbrev pub cells_lent : Ptr → ℕ → ℕ → List (Option Cell) → Lft → Fml
cells_lent null_ptr k s cs = said ffalse
cells_lent (block_ptr b o) k s cs = places_lent b (k * type_size C + o) s cs

-- the cells of a heap that are borrowed by `&`
abbrev pub block_lends : Base → List (Option Cell) → Lft → Fml
block_lends base = cells_lent base.ptr base.first base.stride
