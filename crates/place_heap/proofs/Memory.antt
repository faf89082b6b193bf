-- How one cell is taken out of a block and put back, and how room becomes a block and back. Assumes `Logic`.
use Prim.Native.Nat.{ℕ, zero, suc, ◌+◌, ◌*◌, ◌<◌, ◌≤◌}
use native.Mathlib.Omega.{arith}
use native.Mathlib.Nat.{suc-mul, zero-mul, mul-le-mul_right, mul-le-mul_left, le_trans}
use mathlib.Core.Path.{◌≡◌, refl, sym}
use mathlib.Core.List.{List, [], ◌∷◌}
use lib.ListN.{length, set, get_or, replicate}
use seplogic.Ra.Ura.{Ura}
use base.Fraction.{full_share}
use mir.Syntax.{Ty, ty_array}
use mir.Val.{Val}
use base.Logic.{ent, sep, id⊢}
use base.Fml.{Fml, Lft, ftrue, fsep, froom, fat}
use types.Logic.{Logic, sem}
use types.Kit.{‵, some, ◌⊛◌, ◌$◌, ◌∵◌, !, qed, by, move, keep, drop, use0, use1, use2, pick, split, frame, fsplit, fjoin, rewrite, done}
use denote.Memory.{part_at, lone}
use denote.Steps.{nothing}
use borrow.Table.OneValue.{part_out}
use Rattle.std.specs.Prelude.{Option, Some, None}
use Rattle.place_heap.specs.declared.cells.Cell.{Cell}
use Rattle.place_heap.specs.contracts.cells.Cell.{the_row as C}
use Rattle.place_heap.specs.Ownership.{place, places, strips, place_lent, places_lent}
use Rattle.place_heap.specs.Cells.{blanks}
use Rattle.std.specs.List.{AllByRecursion}

-- the type of a cell for the machine, of 24 bytes
abbrev pub cell_ty : Ty
cell_ty = lone C.mir

-- a cell that holds a value is inside the block
pub filled_inside : (cs : List (Option Cell)) (i : ℕ) (x : Cell) → get_or cs i None ≡ Some x → i < length cs
filled_inside [] i x e = cc
filled_inside (c ∷ cs) zero x e = omega arith
filled_inside (c ∷ cs) (suc i) x e = omega (arith, filled_inside cs i x e)

-- an equation with its sides written out
same : (a b : ℕ) → a ≡ b → a ≡ b
same a b e = e

-- the offset of the next cell, and the same one cell further
next : (i s o : ℕ) → suc i * s * 24 + o ≡ i * s * 24 + (o + s * 24)
next i s o = omega (arith, suc-mul i s)

-- the offset of the first cell
start : (s o : ℕ) → 0 * s * 24 + o ≡ o
start s o = omega (arith, zero-mul s)

-- a product of numbers with bounds has a bound
pub product_small : (a b m n : ℕ) → a ≤ m → b ≤ n → a * b ≤ m * n
product_small a b m n low few = le_trans (mul-le-mul_right b low) (mul-le-mul_left m few)

-- the offset of a cell by its index in the block
pub by_index : (i s k o : ℕ) → i * s * 24 + (k * 24 + o) ≡ (i * s + k) * 24 + o
by_index i s k o = omega arith

-- the offset of the first heap
pub none_before : (o : ℕ) → 0 * 24 + o ≡ o
none_before o = omega arith

-- the offset of the cells of the next heap
pub by_heap : (k o : ℕ) → k * 24 + o + 24 ≡ (k + 1) * 24 + o
by_heap k o = omega arith

-- a list that isn't empty has a first thing
pub parts : {A : Type 0} (xs : List A) → (xs ≡ [] → ⊥) → (x : A) × (ys : List A) × (xs ≡ x ∷ ys)
parts [] filled = absurd (filled refl)
parts (x ∷ xs) filled = (x, xs, refl)

-- the cells but the i-th
abbrev pub others : ℕ → ℕ → ℕ → List (Option Cell) → ℕ → Fml
others b o s [] i = ftrue
others b o s (c ∷ cs) zero = places b (o + s * 24) s cs
others b o s (c ∷ cs) (suc i) = fsep (place b o c) (others b (o + s * 24) s cs i)

-- so many heaps of so many cells that were not written
abbrev pub grid : ℕ → ℕ → List (List (Option Cell))
grid n m = replicate n (blanks m)

module _ {M : Type 1} {𝓤 : Ura M} (𝓛 : Logic 𝓤) (b : ℕ) where
  open 𝓛 use {H}

  -- the i-th cell is taken out
  pub cell_out : (o s : ℕ) (cs : List (Option Cell)) (i : ℕ) → i < length cs
      → ent 𝓤 (sem 𝓛 (places b o s cs)) (sep 𝓤 (sem 𝓛 (place b (i * s * 24 + o) (get_or cs i None))) (sem 𝓛 (others b o s cs i)))
  cell_out o s [] i inside = absurd (omega arith)
  cell_out o s (c ∷ cs) zero inside = qed 𝓛 (‵ (places b o s (c ∷ cs)) ∷ []) ∵ fsplit ! $
      rewrite ! 0 (λ (k : ℕ). ‵ (place b k c)) (sym (start s o)) refl $ done !
  cell_out o s (c ∷ cs) (suc i) inside = qed 𝓛 (‵ (places b o s (c ∷ cs)) ∷ []) ∵ fsplit ! $ move ! (1 ∷ []) $
      use1 𝓛 (‵ (place b (i * s * 24 + (o + s * 24)) (get_or cs i None)) ⊛ ‵ (others b (o + s * 24) s cs i)) (cell_out (o + s * 24) s cs i (omega arith)) $
      split ! $ rewrite ! 0 (λ (k : ℕ). ‵ (place b k (get_or cs i None))) (sym (next i s o)) refl $
      move ! (2 ∷ 1 ∷ []) $ fjoin ! $ move ! (1 ∷ []) $ done !

  -- a cell is put in the place of the i-th
  pub cell_in : (o s : ℕ) (cs : List (Option Cell)) (i : ℕ) → i < length cs → (c : Option Cell)
      → ent 𝓤 (sep 𝓤 (sem 𝓛 (place b (i * s * 24 + o) c)) (sem 𝓛 (others b o s cs i))) (sem 𝓛 (places b o s (set cs i c)))
  cell_in o s [] i inside new = absurd (omega arith)
  cell_in o s (c ∷ cs) zero inside new = qed 𝓛 (‵ (place b (0 * s * 24 + o) new) ∷ ‵ (places b (o + s * 24) s cs) ∷ []) ∵
      rewrite ! 0 (λ (k : ℕ). ‵ (place b k new)) (start s o) refl $ fjoin ! $ done !
  cell_in o s (c ∷ cs) (suc i) inside new = qed 𝓛 (‵ (place b (suc i * s * 24 + o) new) ∷ ‵ (others b o s (c ∷ cs) (suc i)) ∷ []) ∵
      move ! (1 ∷ []) $ fsplit ! $ move ! (2 ∷ 1 ∷ []) $ rewrite ! 0 (λ (k : ℕ). ‵ (place b k new)) (next i s o) refl $
      use2 𝓛 (‵ (places b (o + s * 24) s (set cs i new))) (cell_in (o + s * 24) s cs i (omega arith) new) $ move ! (1 ∷ 0 ∷ []) $ fjoin ! $ done !

  -- of cells behind a `&` the i-th is one
  pub cell_seen : (κ : Lft) (o s : ℕ) (cs : List (Option Cell)) (i : ℕ) → i < length cs
      → ent 𝓤 (sem 𝓛 (places_lent b o s cs κ)) (sem 𝓛 (place_lent b (i * s * 24 + o) (get_or cs i None) κ))
  cell_seen κ o s [] i inside = absurd (omega arith)
  cell_seen κ o s (c ∷ cs) zero inside = qed 𝓛 (‵ (places_lent b o s (c ∷ cs) κ) ∷ []) ∵ fsplit ! $ keep ! (0 ∷ []) $
      rewrite ! 0 (λ (k : ℕ). ‵ (place_lent b k c κ)) (sym (start s o)) refl $ done !
  cell_seen κ o s (c ∷ cs) (suc i) inside = qed 𝓛 (‵ (places_lent b o s (c ∷ cs) κ) ∷ []) ∵ fsplit ! $ keep ! (1 ∷ []) $
      use1 𝓛 (‵ (place_lent b (i * s * 24 + (o + s * 24)) (get_or cs i None) κ)) (cell_seen κ (o + s * 24) s cs i (omega arith)) $
      rewrite ! 0 (λ (k : ℕ). ‵ (place_lent b k (get_or cs i None) κ)) (sym (next i s o)) refl $ done !

  -- room for n cells is n blank ones
  of_room : (n o : ℕ) → ent 𝓤 (H.room (ty_array cell_ty n) b o) (sem 𝓛 (places b o 1 (blanks n)))
  of_room zero o = qed 𝓛 (‵ (froom (ty_array cell_ty 0) b o) ∷ []) ∵ keep ! [] $ done !
  of_room (suc n) o = qed 𝓛 (‵ (froom (ty_array cell_ty (suc n)) b o) ∷ []) ∵
      use1 𝓛 (‵ (froom cell_ty b o) ⊛ ‵ (froom (ty_array cell_ty n) b (o + 24))) (𝓛.laws.room_uncons cell_ty n b o) $ split ! $
      use1 𝓛 (‵ (place b o None)) (𝓛.laws.room-raw cell_ty b o) $ frame ! $ by ! (of_room n (o + 24))

  -- what a cell holds is let go
  pub emptied : (o : ℕ) (c : Option Cell) → ent 𝓤 (sem 𝓛 (place b o c)) (H.room cell_ty b o)
  emptied o None = 𝓛.laws.raw-room cell_ty b o
  emptied o (Some x) = qed 𝓛 (‵ (part_at C full_share x b o) ∷ []) ∵
      use1 𝓛 (some (λ (v : Val). ‵ (fat full_share cell_ty b o v) ⊛ ‵ (C.own_val x (v ∷ [])))) (part_out 𝓛 C refl full_share x b o) $ pick !
      (λ v. split ! $ keep ! (0 ∷ []) $
      by ! (𝓛.laws.at_room cell_ty b o v))

  -- blank cells are room again
  to_room : (n o : ℕ) → ent 𝓤 (sem 𝓛 (places b o 1 (blanks n))) (H.room (ty_array cell_ty n) b o)
  to_room zero o = 𝓛.laws.room_nil cell_ty b o
  to_room (suc n) o = qed 𝓛 (‵ (place b o None) ∷ ‵ (places b (o + 24) 1 (blanks n)) ∷ []) ∵
      use1 𝓛 (‵ (froom cell_ty b o)) (emptied o None) $ move ! (1 ∷ []) $
      use1 𝓛 (‵ (froom (ty_array cell_ty n) b (o + 24))) (to_room n (o + 24)) $ move ! (1 ∷ []) $ by ! (𝓛.laws.room_cons cell_ty n b o)

  -- the cells of a heap are blank again, whatever they hold
  blanked : (o s : ℕ) (cs : List (Option Cell)) → ent 𝓤 (sem 𝓛 (places b o s cs)) (sem 𝓛 (places b o s (blanks (length cs))))
  blanked o s [] = qed 𝓛 (‵ (places b o s []) ∷ []) ∵ done !
  blanked o s (c ∷ cs) = qed 𝓛 (‵ (places b o s (c ∷ cs)) ∷ []) ∵ fsplit ! $
      use1 𝓛 (‵ (froom cell_ty b o)) (emptied o c) $ use1 𝓛 (‵ (place b o None)) (𝓛.laws.room-raw cell_ty b o) $ move ! (1 ∷ []) $
      use1 𝓛 (‵ (places b (o + s * 24) s (blanks (length cs)))) (blanked (o + s * 24) s cs) $ move ! (1 ∷ 0 ∷ []) $ fjoin ! $ done !

  -- and so are those of all heaps
  all_blanked : (m o s : ℕ) (css : List (List (Option Cell))) → AllByRecursion (λ (cs : List (Option Cell)). length cs ≡ m) css
      → ent 𝓤 (sem 𝓛 (strips b o s css)) (sem 𝓛 (strips b o s (grid (length css) m)))
  all_blanked m o s [] even = qed 𝓛 (‵ (strips b o s []) ∷ []) ∵ done !
  all_blanked m o s (cs ∷ css) even = qed 𝓛 (‵ (strips b o s (cs ∷ css)) ∷ []) ∵ fsplit ! $
      use1 𝓛 (‵ (places b o s (blanks (length cs)))) (blanked o s cs) $ rewrite ! 0 (λ (k : ℕ). ‵ (places b o s (blanks k))) even.0 refl $ move ! (1 ∷ []) $
      use1 𝓛 (‵ (strips b (o + 24) s (grid (length css) m))) (all_blanked m (o + 24) s css even.1) $ move ! (1 ∷ 0 ∷ []) $ fjoin ! $ done !

  -- a row of cells side by side falls in two
  row_out : (m n o : ℕ) → ent 𝓤 (sem 𝓛 (places b o 1 (blanks (m + n)))) (sep 𝓤 (sem 𝓛 (places b o 1 (blanks m))) (sem 𝓛 (places b (o + m * 24) 1 (blanks n))))
  row_out zero n o = qed 𝓛 (‵ (places b o 1 (blanks (0 + n))) ∷ []) ∵
      rewrite ! 0 (λ (k : ℕ). ‵ (places b o 1 (blanks k))) (same (0 + n) n (omega arith)) refl $ rewrite ! 0 (λ (k : ℕ). ‵ (places b k 1 (blanks n)))
      (same (o) (o + 0 * 24) (omega arith)) refl $
      nothing ! $ done !
  row_out (suc m) n o = qed 𝓛 (‵ (places b o 1 (blanks (suc m + n))) ∷ []) ∵
      rewrite ! 0 (λ (k : ℕ). ‵ (places b o 1 (blanks k))) (same (suc m + n) (suc (m + n)) (omega arith)) refl $ fsplit ! $ move ! (1 ∷ []) $
      use1 𝓛 (‵ (places b (o + 24) 1 (blanks m)) ⊛ ‵ (places b (o + 24 + m * 24) 1 (blanks n))) (row_out m n (o + 24)) $ split ! $
      move ! (2 ∷ 0 ∷ []) $ fjoin ! $ move ! (1 ∷ []) $
      rewrite ! 0 (λ (k : ℕ). ‵ (places b k 1 (blanks n))) (same (o + 24 + m * 24) (o + suc m * 24) (omega arith)) refl $ move ! (1 ∷ 0 ∷ []) $ done !

  -- and two such rows are one
  row_in : (m n o : ℕ) → ent 𝓤 (sep 𝓤 (sem 𝓛 (places b o 1 (blanks m))) (sem 𝓛 (places b (o + m * 24) 1 (blanks n)))) (sem 𝓛 (places b o 1 (blanks (m + n))))
  row_in zero n o = qed 𝓛 (‵ (places b o 1 []) ∷ ‵ (places b (o + 0 * 24) 1 (blanks n)) ∷ []) ∵ drop ! $
      rewrite ! 0 (λ (k : ℕ). ‵ (places b k 1 (blanks n))) (same (o + 0 * 24) (o) (omega arith)) refl $
      rewrite ! 0 (λ (k : ℕ). ‵ (places b o 1 (blanks k))) (same n (0 + n) (omega arith)) refl $ done !
  row_in (suc m) n o = qed 𝓛 (‵ (places b o 1 (blanks (suc m))) ∷ ‵ (places b (o + suc m * 24) 1 (blanks n)) ∷ []) ∵ fsplit ! $ move ! (2 ∷ []) $
      rewrite ! 0 (λ (k : ℕ). ‵ (places b k 1 (blanks n))) (same (o + suc m * 24) (o + 24 + m * 24) (omega arith)) refl $ move ! (2 ∷ 0 ∷ []) $
      use2 𝓛 (‵ (places b (o + 24) 1 (blanks (m + n)))) (row_in m n (o + 24)) $ move ! (1 ∷ 0 ∷ []) $
      use2 𝓛 (‵ (places b o 1 (blanks (suc (m + n))))) (id⊢ 𝓤 _) $
      rewrite ! 0 (λ (k : ℕ). ‵ (places b o 1 (blanks k))) (same (suc (m + n)) (suc m + n) (omega arith)) refl $ done !

  -- each cell of a row is the first of a heap
  zip_in : (n m o s : ℕ) → ent 𝓤 (sep 𝓤 (sem 𝓛 (places b o 1 (blanks n))) (sem 𝓛 (strips b (o + s * 24) s (grid n m)))) (sem 𝓛 (strips b o s (grid n (suc m))))
  zip_in zero m o s = qed 𝓛 (‵ (places b o 1 []) ∷ ‵ (strips b (o + s * 24) s []) ∷ []) ∵ drop ! $ done !
  zip_in (suc n) m o s = qed 𝓛 (‵ (places b o 1 (blanks (suc n))) ∷ ‵ (strips b (o + s * 24) s (grid (suc n) m)) ∷ []) ∵
      fsplit ! $ move ! (2 ∷ []) $ fsplit ! $ move ! (2 ∷ 0 ∷ []) $ fjoin ! $ move ! (1 ∷ []) $
      rewrite ! 0 (λ (k : ℕ). ‵ (strips b k s (grid n m))) (same (o + s * 24 + 24) (o + 24 + s * 24) (omega arith)) refl $ move ! (2 ∷ 0 ∷ []) $
      use2 𝓛 (‵ (strips b (o + 24) s (grid n (suc m)))) (zip_in n m (o + 24) s) $ move ! (1 ∷ 0 ∷ []) $ fjoin ! $ done !

  -- and back
  zip_out : (n m o s : ℕ) → ent 𝓤 (sem 𝓛 (strips b o s (grid n (suc m)))) (sep 𝓤 (sem 𝓛 (places b o 1 (blanks n))) (sem 𝓛 (strips b (o + s * 24) s (grid n m))))
  zip_out zero m o s = qed 𝓛 (‵ (strips b o s []) ∷ []) ∵ nothing ! $ done !
  zip_out (suc n) m o s = qed 𝓛 (‵ (strips b o s (grid (suc n) (suc m))) ∷ []) ∵ fsplit ! $ fsplit ! $ move ! (2 ∷ []) $
      use1 𝓛 (‵ (places b (o + 24) 1 (blanks n)) ⊛ ‵ (strips b (o + 24 + s * 24) s (grid n m))) (zip_out n m (o + 24) s) $ split ! $
      move ! (2 ∷ 0 ∷ []) $ fjoin ! $ move ! (1 ∷ []) $
      rewrite ! 0 (λ (k : ℕ). ‵ (strips b k s (grid n m))) (same (o + 24 + s * 24) (o + s * 24 + 24) (omega arith)) refl $ move ! (2 ∷ 0 ∷ []) $
      fjoin ! $ move ! (1 ∷ 0 ∷ []) $ done !

  -- heaps of no cells take no room
  no_cells : (n o s : ℕ) → ent 𝓤 (sem 𝓛 ftrue) (sem 𝓛 (strips b o s (grid n 0)))
  no_cells zero o s = qed 𝓛 (‵ ftrue ∷ []) ∵ done !
  no_cells (suc n) o s = qed 𝓛 (‵ ftrue ∷ []) ∵ use1 𝓛 (‵ (strips b (o + 24) s (grid n 0))) (no_cells n (o + 24) s) $ nothing ! $ fjoin ! $ done !

  -- a row of cells is that of n heaps of m cells
  to_grid : (m n o : ℕ) → ent 𝓤 (sem 𝓛 (places b o 1 (blanks (m * n)))) (sem 𝓛 (strips b o n (grid n m)))
  to_grid zero n o = qed 𝓛 (‵ (places b o 1 (blanks (0 * n))) ∷ []) ∵ keep ! [] $ nothing ! $ by ! (no_cells n o n)
  to_grid (suc m) n o = qed 𝓛 (‵ (places b o 1 (blanks (suc m * n))) ∷ []) ∵
      rewrite ! 0 (λ (k : ℕ). ‵ (places b o 1 (blanks k))) (same (suc m * n) (n + m * n) (omega (arith, suc-mul m n))) refl $
      use1 𝓛 (‵ (places b o 1 (blanks n)) ⊛ ‵ (places b (o + n * 24) 1 (blanks (m * n)))) (row_out n (m * n) o) $ split ! $ move ! (1 ∷ []) $
      use1 𝓛 (‵ (strips b (o + n * 24) n (grid n m))) (to_grid m n (o + n * 24)) $ move ! (1 ∷ 0 ∷ []) $ by ! (zip_in n m o n)

  -- and back
  of_grid : (m n o : ℕ) → ent 𝓤 (sem 𝓛 (strips b o n (grid n m))) (sem 𝓛 (places b o 1 (blanks (m * n))))
  of_grid zero n o = qed 𝓛 (‵ (strips b o n (grid n 0)) ∷ []) ∵ keep ! [] $ use0 𝓛 (‵ (places b o 1 (blanks 0))) (id⊢ 𝓤 _) $
      rewrite ! 0 (λ (k : ℕ). ‵ (places b o 1 (blanks k))) (same 0 (0 * n) (omega (arith, zero-mul n))) refl $ done !
  of_grid (suc m) n o = qed 𝓛 (‵ (strips b o n (grid n (suc m))) ∷ []) ∵
      use1 𝓛 (‵ (places b o 1 (blanks n)) ⊛ ‵ (strips b (o + n * 24) n (grid n m))) (zip_out n m o n) $ split ! $ move ! (1 ∷ []) $
      use1 𝓛 (‵ (places b (o + n * 24) 1 (blanks (m * n)))) (of_grid m n (o + n * 24)) $ move ! (1 ∷ 0 ∷ []) $
      use2 𝓛 (‵ (places b o 1 (blanks (n + m * n)))) (row_in n (m * n) o) $
      rewrite ! 0 (λ (k : ℕ). ‵ (places b o 1 (blanks k))) (same (n + m * n) (suc m * n) (omega (arith, suc-mul m n))) refl $ done !

  -- room for n heaps of m cells is those heaps, with no cell written
  pub grid_of_room : (m n o : ℕ) → ent 𝓤 (H.room (ty_array cell_ty (m * n)) b o) (sem 𝓛 (strips b o n (grid n m)))
  grid_of_room m n o = qed 𝓛 (‵ (froom (ty_array cell_ty (m * n)) b o) ∷ []) ∵
      use1 𝓛 (‵ (places b o 1 (blanks (m * n)))) (of_room (m * n) o) $ by ! (to_grid m n o)

  -- heaps of m cells are room again, whatever they hold
  pub room_of_heaps : (m n o : ℕ) (css : List (List (Option Cell))) → length css ≡ n → AllByRecursion (λ (cs : List (Option Cell)). length cs ≡ m) css
      → ent 𝓤 (sem 𝓛 (strips b o n css)) (H.room (ty_array cell_ty (m * n)) b o)
  room_of_heaps m n o css many even = qed 𝓛 (‵ (strips b o n css) ∷ []) ∵
      use1 𝓛 (‵ (strips b o n (grid (length css) m))) (all_blanked m o n css even) $
      rewrite ! 0 (λ (k : ℕ). ‵ (strips b o n (grid k m))) many refl $
      use1 𝓛 (‵ (places b o 1 (blanks (m * n)))) (of_grid m n o) $ by ! (to_room (m * n) o)
