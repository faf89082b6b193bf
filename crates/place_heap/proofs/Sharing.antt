-- A `&` to a block is made where one to each of its cells is. Assumes `Logic`.
use Prim.Native.Nat.{ℕ, ◌+◌, ◌*◌}
use Rattle.std.specs.Prelude.{List, [], ◌∷◌, Option, Some, None}
use Rattle.std.specs.Mem.{type_size}
use seplogic.Ra.Ura.{Ura}
use base.Fml.{Lft, Incl, ftrue, ffalse}
use types.Logic.{Logic}
use denote.Param.Laws.{Laws}
use denote.RawPtr.{Ptr, block_ptr, null_ptr}
use denote.Sharing.{ShrLaws, said}
use denote.SharingLaws.{beside_shr_laws, nothing_shr_laws, said_shr_laws}
use denote.Shares.{Shares-less}
use denote.Struct.Lending.{Lends, Lends-both, Lends-nothing, Lends-false}
use Rattle.place_heap.specs.declared.cells.Cell.{Cell}
use Rattle.place_heap.specs.contracts.cells.Cell.{the_row as C}
use Rattle.place_heap.specs.Ownership.{place, places, cells_at, place_lent, places_lent, cells_lent}

module _ (L : Laws C) where
  -- the laws of one cell
  place_laws : (b o : ℕ) (c : Option Cell) → ShrLaws (place_lent b o c)
  place_laws b o None = nothing_shr_laws
  place_laws b o (Some x) = L.shr_laws x b o

  -- and of cells at even distances
  places_laws : (b o s : ℕ) (cs : List (Option Cell)) → ShrLaws (places_lent b o s cs)
  places_laws b o s [] = nothing_shr_laws
  places_laws b o s (c ∷ cs) = beside_shr_laws _ _ (place_laws b o c) (places_laws b (o + s * type_size C) s cs)

  -- what a `&` to a block holds can be copied, and used for a shorter time
  pub block_laws : (p : Ptr) (k s : ℕ) (cs : List (Option Cell)) → ShrLaws (cells_lent p k s cs)
  block_laws null_ptr k s cs = said_shr_laws ffalse tt
  block_laws (block_ptr b o) k s cs = places_laws b (k * type_size C + o) s cs

module _ {M : Type 1} {𝓤 : Ura M} (𝓛 : Logic 𝓤) (l : Lft) (L : Laws C) (inc : Incl l C.lives) where
  -- a borrow of one cell lends it
  Lends-place : (b o : ℕ) (c : Option Cell) → Lends 𝓛 (place b o c) (place_lent b o c) l
  Lends-place b o None = Lends-nothing 𝓛 (place b o None) l
  Lends-place b o (Some x) = λ κ ts. Shares-less 𝓛 C C.lives l inc (L.shares 𝓛) x κ ts b o

  -- and so do cells at even distances
  Lends-places : (b o s : ℕ) (cs : List (Option Cell)) → Lends 𝓛 (places b o s cs) (places_lent b o s cs) l
  Lends-places b o s [] = Lends-nothing 𝓛 ftrue l
  Lends-places b o s (c ∷ cs) =
      Lends-both 𝓛 (place b o c) (places b (o + s * type_size C) s cs) (place_lent b o c) (places_lent b (o + s * type_size C) s cs) l (Lends-place b o c)
      (Lends-places b (o + s * type_size C) s cs)

  -- a borrow of a block lends each of its cells
  pub Lends-block : (p : Ptr) (k s : ℕ) (cs : List (Option Cell)) → Lends 𝓛 (cells_at p k s cs) (cells_lent p k s cs) l
  Lends-block null_ptr k s cs = Lends-false 𝓛 (said ffalse) l
  Lends-block (block_ptr b o) k s cs = Lends-places b (k * type_size C + o) s cs
