-- The cells that a block shows, of which some were written.
use Rattle.std.proofs.Common.{◌≡◌, ◌≢◌, ℕ, ◌<◌, ◌≤◌, List, ◌∷◌, length, set, get_or, replicate}
use Rattle.std.proofs.Common.{Option, Some, None, refl, sym, ap, ◌∙◌, arith, length-set, ⊎_elim, slice_index, subst}
use Rattle.std.proofs.lemmas.Bool.{cases_eq}
use Rattle.std.proofs.lemmas.List.{get_or-set_same, get_or-set_other, get_or-replicate, length-replicate}
use Rattle.std.proofs.lemmas.List.FromFn.{length-map-range_with_len, get_or-map-range_with_len, fill_by_all}
use Rattle.place_heap.specs.declared.cells.Cell.{Cell}
use Rattle.place_heap.specs.Cells.{cell_at, noted_place, shown, unused_cell, values_of, IsMarked, IsWritten}
use Rattle.place_heap.proofs.Moves.{set_as_it_was}

-- of equal lists the first things are the same
pub head_of : {A : Type 0} {x y : A} {xs ys : List A} → x ∷ xs ≡ y ∷ ys → x ≡ y
head_of e = cc e

-- and the rest
pub tail_of : {A : Type 0} {x y : A} {xs ys : List A} → x ∷ xs ≡ y ∷ ys → xs ≡ ys
tail_of e = cc e

-- what the place i shows
abbrev at_place : ℕ → List ℕ → List (Option Cell) → ℕ → Cell
at_place cap marks places i = shown cap (slice_index marks i) (get_or places i None)

-- there are as many cells as places
pub values_len : (marks : List ℕ) (places : List (Option Cell)) (cap : ℕ) → length (values_of marks places cap) ≡ cap
values_len marks places cap = length-map-range_with_len (at_place cap marks places) 0 cap

-- each cell is what its place shows
pub value_at : (marks : List ℕ) (places : List (Option Cell)) (cap i : ℕ) → i < cap → cell_at (values_of marks places cap) i ≡ at_place cap marks places i
value_at marks places cap i inside = get_or-map-range_with_len (at_place cap marks places) 0 cap i i (unused_cell 0) inside (omega arith)

-- cells that are each what their place shows
all_shown : (cells : List Cell) (marks : List ℕ) (places : List (Option Cell)) (cap : ℕ) → length cells ≡ cap
    → ((k : ℕ) → k < cap → cell_at cells k ≡ at_place cap marks places k) → cells ≡ values_of marks places cap
all_shown cells marks places cap len each = fill_by_all (at_place cap marks places) cells cap (unused_cell 0) len each

-- a mark and its place, given another way
both_marked : (m n : ℕ) (p q : Option Cell) → m ≡ n → p ≡ q → IsMarked m p → IsMarked n q
both_marked m n p q e f marked = subst (λ (x : ℕ). IsMarked x q) e (subst (λ (y : Option Cell). IsMarked m y) f marked)

-- a place with the mark of one that was written holds what it shows
held_by : (cap mark : ℕ) (place : Option Cell) → IsMarked mark place → mark ≡ 255 → place ≡ Some (shown cap mark place)
held_by cap mark (Some cell) marked is = refl
held_by cap mark None marked is = absurd (omega arith)

-- and one with another mark holds nothing
none_by : (mark : ℕ) (place : Option Cell) → IsMarked mark place → mark ≢ 255 → place ≡ None
none_by mark (Some cell) marked isnt = absurd (isnt marked)
none_by mark None marked isnt = refl

module _ {marks : List ℕ} {places : List (Option Cell)} {cap : ℕ} (kept : IsWritten marks places cap) (i : ℕ) (inside : i < cap) where
  -- a place that was written holds its cell
  pub place_holds : slice_index marks i ≡ 255 → get_or places i None ≡ Some (cell_at (values_of marks places cap) i)
  place_holds is = held_by cap (slice_index marks i) (get_or places i None) (kept.marked i inside) is ∙ ap Some (sym (value_at marks places cap i inside))

  -- a place that wasn't shows a cell with no item
  pub place_blank : slice_index marks i ≢ 255 → cell_at (values_of marks places cap) i ≡ unused_cell (noted_place cap (slice_index marks i))
  place_blank isnt =
      value_at marks places cap i inside ∙ ap (shown cap (slice_index marks i))
      (none_by (slice_index marks i) (get_or places i None) (kept.marked i inside) isnt)

  module _ (mark : ℕ) (place : Option Cell) (marks' : List ℕ) (places' : List (Option Cell)) (is_mark : marks' ≡ set marks i mark)
      (is_place : (k : ℕ) → k ≢ i → get_or places' k None ≡ get_or places k None)
      (there : get_or places' i None ≡ place) (same : length places' ≡ length places) (marked : IsMarked mark place) where
    -- the new mark
    mark_at : slice_index marks' i ≡ mark
    mark_at = ap (λ ms. slice_index ms i) is_mark ∙ get_or-set_same marks i mark 0 (omega (arith, kept.many))

    -- the other marks
    mark_other : (k : ℕ) → k ≢ i → slice_index marks' k ≡ slice_index marks k
    mark_other k ne = ap (λ ms. slice_index ms k) is_mark ∙ get_or-set_other marks i k mark 0 ne

    -- the marks and the places stay in step
    pub changed_written : IsWritten marks' places' cap
    changed_written = record {
      len = same ∙ kept.len;
      small = kept.small;
      many = ap length is_mark ∙ length-set marks i mark ∙ kept.many;
      marked = λ k below. ⊎_elim
          (λ e. subst (λ (n : ℕ). IsMarked (slice_index marks' n) (get_or places' n None)) (sym e) (both_marked _ _ _ _ (sym mark_at) (sym there) marked))
          (λ ne. both_marked _ _ _ _ (sym (mark_other k ne)) (sym (is_place k ne)) (kept.marked k below)) (cases_eq k i);
    }

    -- and one cell is another
    pub changed_values : values_of marks' places' cap ≡ set (values_of marks places cap) i (shown cap mark place)
    changed_values =
        sym (all_shown (set (values_of marks places cap) i (shown cap mark place)) marks' places' cap
        (length-set (values_of marks places cap) i (shown cap mark place) ∙ values_len marks places cap)
        (λ k below. ⊎_elim
        (λ e. ap (λ n. cell_at (set (values_of marks places cap) i (shown cap mark place)) n) e
        ∙ (get_or-set_same (values_of marks places cap) i (shown cap mark place) (unused_cell 0) (omega (arith, values_len marks places cap))
        ∙ (λ j. shown cap (sym mark_at j) (sym there j)) ∙ ap (at_place cap marks' places') (sym e)))
        (λ ne. get_or-set_other (values_of marks places cap) i k (shown cap mark place) (unused_cell 0) ne
        ∙ (value_at marks places cap k below ∙ (λ j. shown cap (sym (mark_other k ne) j) (sym (is_place k ne) j)))) (cases_eq k i)))

  -- a cell is written
  pub put_written : (cell : Cell) → IsWritten (set marks i 255) (set places i (Some cell)) cap
  put_written cell =
      changed_written 255 (Some cell) (set marks i 255) (set places i (Some cell)) refl (λ k ne. get_or-set_other places i k (Some cell) None ne)
      (get_or-set_same places i (Some cell) None (omega (arith, kept.len))) (length-set places i (Some cell)) refl

  -- which is then the one that is shown
  pub put_values : (cell : Cell) → values_of (set marks i 255) (set places i (Some cell)) cap ≡ set (values_of marks places cap) i cell
  put_values cell =
      changed_values 255 (Some cell) (set marks i 255) (set places i (Some cell)) refl (λ k ne. get_or-set_other places i k (Some cell) None ne)
      (get_or-set_same places i (Some cell) None (omega (arith, kept.len))) (length-set places i (Some cell)) refl

  -- a cell that was written is another
  pub moved_values : slice_index marks i ≡ 255 → (cell : Cell) → values_of marks (set places i (Some cell)) cap ≡ set (values_of marks places cap) i cell
  moved_values is cell =
      changed_values 255 (Some cell) marks (set places i (Some cell)) (sym (ap (set marks i) (sym is) ∙ set_as_it_was marks i 0))
      (λ k ne. get_or-set_other places i k (Some cell) None ne)
      (get_or-set_same places i (Some cell) None (omega (arith, kept.len))) (length-set places i (Some cell)) refl

  -- the mark of a place that wasn't written is another
  pub noted_written : slice_index marks i ≢ 255 → (mark : ℕ) → mark < 255 → IsWritten (set marks i mark) places cap
  noted_written isnt mark small =
      changed_written mark None (set marks i mark) places refl (λ k ne. refl)
      (none_by (slice_index marks i) (get_or places i None) (kept.marked i inside) isnt) refl small

  -- and so is the place that is shown
  pub noted_values : slice_index marks i ≢ 255 → (mark : ℕ) → mark < 255 → values_of (set marks i mark) places cap ≡ set
      (values_of marks places cap) i (unused_cell (noted_place cap mark))
  noted_values isnt mark small =
      changed_values mark None (set marks i mark) places refl (λ k ne. refl)
      (none_by (slice_index marks i) (get_or places i None) (kept.marked i inside) isnt) refl small

module _ (cap : ℕ) (small : cap ≤ 8192) where
  -- the marks of places that weren't written
  new_mark : (k : ℕ) → k < cap → slice_index (replicate cap 254) k ≡ 254
  new_mark k below = get_or-replicate cap k 254 0 below

  -- the places
  new_place : (k : ℕ) → k < cap → get_or (replicate cap (let none : Option Cell = None in none)) k None ≡ None
  new_place k below = get_or-replicate cap k None None below

  -- a new block has a mark for each place
  pub new_written : IsWritten (replicate cap 254) (replicate cap None) cap
  new_written = record {
    len = length-replicate cap None;
    small = small;
    many = length-replicate cap 254;
    marked = λ k below. both_marked _ _ _ _ (sym (new_mark k below)) (sym (new_place k below)) (let less : 254 < 255 = omega arith in less);
  }

  -- and shows cells with no item
  pub new_values : values_of (replicate cap 254) (replicate cap None) cap ≡ replicate cap (unused_cell cap)
  new_values =
      sym (all_shown (replicate cap (unused_cell cap)) (replicate cap 254) (replicate cap None) cap (length-replicate cap (unused_cell cap))
      (λ k below. get_or-replicate cap k (unused_cell cap) (unused_cell 0) below ∙ (λ j. shown cap (sym (new_mark k below) j) (sym (new_place k below) j))))
