-- The spots of a table, the first for place 0: each free or with the row of a call. A place behind the last is free.
use Rattle.std.specs.Prelude.{◌≡◌, ◌≤◌, ℕ, suc, Option, Some, None, List, [], ◌∷◌, length, slice_index_or}
use Rattle.plain_sets.specs.Maps.{from_entries, get}
use Rattle.homa_plain.specs.declared.id.CallId.{CallId}
use Rattle.homa_plain.specs.Rows.{RowsOf}
use Rattle.host_places.specs.Placed.{Placed}
use Rattle.host_places.specs.Index.{Taken}
use Rattle.host_places.specs.declared.table.Spot.{Spot}
use Rattle.host_places.specs.declared.table.Spot.TheVariants.{Free, Of}

module _ {R : Type 0} where
  -- the call of a spot
  abbrev pub call_in : Spot R → Option CallId
  call_in Free = None
  call_in (Of id row) = Some id

  -- the row of a spot
  abbrev pub row_in : Spot R → Option R
  row_in Free = None
  row_in (Of id row) = Some row

  -- the call of a spot, with its row
  abbrev pub spot_in : Spot R → Option (CallId × R)
  spot_in Free = None
  spot_in (Of id row) = Some (id, row)

  -- a spot with this in place of its row
  abbrev pub with_row : Spot R → R → Spot R
  with_row Free new = Free
  with_row (Of id row) new = Of id new

  -- the rows of spots, the first of which has this number
  abbrev pub placed_from : ℕ → List (Spot R) → List (CallId × Placed R)
  placed_from n [] = []
  placed_from n (Free ∷ spots) = placed_from (suc n) spots
  placed_from n (Of id row ∷ spots) = (id, record { place = n; row = row }) ∷ placed_from (suc n) spots

  -- the rows of spots, by their calls
  unfoldable pub rows_of : List (Spot R) → RowsOf (Placed R)
  rows_of spots = from_entries (placed_from 0 spots)

  -- the call of the spot with a number
  abbrev pub call_of : List (Spot R) → ℕ → Option CallId
  call_of spots n = call_in (slice_index_or spots n Free)

  -- there are no more spots than places, and the spot at a call's place is that call's
  pub record AreSpots (taken : Taken) (spots : List (Spot R)) : Type 0 where
    pub few : length spots ≤ taken.room
    pub stands : (q : CallId) (n : ℕ) → get taken.at q ≡ Some n → call_of spots n ≡ Some q
    pub found : (q : CallId) (n : ℕ) → call_of spots n ≡ Some q → get taken.at q ≡ Some n
