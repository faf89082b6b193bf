-- Rows of calls at fixed places.
use Rattle.std.specs.Prelude.{◌≡◌, ◌<◌, ◌==◌, ℕ, if◌then◌else◌, Option, Some, None, List, [], ◌∷◌, refl}
use Rattle.std.specs.Coded.{Coded, code_by, coded×, coded_ℕ}
use Rattle.plain_sets.specs.Maps.{entries, get, code}
use Rattle.homa_plain.specs.declared.id.CallId.{CallId}
use Rattle.homa_plain.specs.contracts.id.CallId as call_id
use Rattle.homa_plain.specs.Rows.{RowsOf}
use Rattle.host_places.specs.Mapped.{mapped}

-- a row that stands at a place
pub record Placed (R : Type 0) : Type 0 where
  pub place : ℕ
  pub row : R

-- how many places there are, and the row of each call, at its place
pub record Table (R : Type 0) : Type 0 where
  pub room : ℕ
  pub rows : RowsOf (Placed R)

module _ {R : Type 0} where
  -- a row of a call stands at a place
  abbrev pub StandsAt : RowsOf (Placed R) → CallId → ℕ → R → Type 0
  StandsAt rows id place row = get rows id ≡ Some (record { place = place; row = row })

  -- no call's row stands at this place
  abbrev pub IsFree : RowsOf (Placed R) → ℕ → Type 0
  IsFree rows place = (q : CallId) (x : Placed R) → get rows q ≡ Some x → x.place ≡ place → ⊥

  -- each row's place is one of so many, and no two calls have one place
  pub record ArePlaced (room : ℕ) (rows : RowsOf (Placed R)) : Type 0 where
    pub within : (q : CallId) (x : Placed R) → get rows q ≡ Some x → x.place < room
    pub apart : (p q : CallId) (x y : Placed R) → get rows p ≡ Some x → get rows q ≡ Some y → x.place ≡ y.place → p ≡ q

  -- the first call in a list whose row stands at a place, with that row
  abbrev pub spot_among : List (CallId × Placed R) → ℕ → Option (CallId × R)
  spot_among [] place = None
  spot_among (e ∷ es) place = if e.1.place == place then Some (e.0, e.1.row) else spot_among es place

  -- the call whose row stands at a place, with that row
  unfoldable pub spot_at : RowsOf (Placed R) → ℕ → Option (CallId × R)
  spot_at rows place = spot_among (entries rows) place

  -- the rows where this is the row at a place
  abbrev pub set_at : RowsOf (Placed R) → ℕ → R → RowsOf (Placed R)
  set_at rows place row = mapped (λ x. if x.place == place then record x { row = row } else x) rows

  -- A call's row became another or went, and the rows and places of all other calls stay. A row that stays, stays at its place.
  pub record Changed (id : CallId) (old new : RowsOf (Placed R)) : Type 0 where
    pub place : (x y : Placed R) → get old id ≡ Some x → get new id ≡ Some y → y.place ≡ x.place
    pub others : (q : CallId) → (q ≡ id → ⊥) → get new q ≡ get old q

-- how a row at a place is stored
abbrev pub placed_code : {R : Type 0} → Coded R → Coded (Placed R)
placed_code {R} row = code_by (ℕ × R) (coded× coded_ℕ row) (λ p. (p.place, p.row)) (λ c. record { place = c.0; row = c.1 }) (λ _. refl)

-- how rows at their places are stored, by their calls
abbrev pub rows_code : {R : Type 0} → Coded R → Coded (RowsOf (Placed R))
rows_code row = code (call_id.the_row.coded) (placed_code row)

-- how a table is stored
abbrev pub table_code : {R : Type 0} → Coded R → Coded (Table R)
table_code {R} row =
    code_by (ℕ × RowsOf (Placed R)) (coded× coded_ℕ (rows_code row)) (λ t. (t.room, t.rows)) (λ c. record { room = c.0; rows = c.1 }) (λ _. refl)
