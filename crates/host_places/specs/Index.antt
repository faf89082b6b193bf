-- The places of calls: an index in order of call, and the places that are free.
use Rattle.std.specs.Prelude.{◌≡◌, ◌<◌, ℕ, Some, List, ◌++◌, refl, IsPermutation}
use Rattle.std.specs.List.{range_with_len}
use Rattle.std.specs.Coded.{Coded, code_by, coded×, coded_ℕ}
use Rattle.std.proofs.Common.{T}
use Rattle.plain_sets.specs.Maps.{get, code, rises, checked, empty, values}
use Rattle.homa_plain.specs.declared.id.CallId.{CallId}
use Rattle.homa_plain.specs.contracts.id.CallId as call_id
use Rattle.homa_plain.specs.Calls.{call_cmp}
use Rattle.homa_plain.specs.Rows.{RowsOf}

-- how many places there are, and the place of each call that has one
pub record Taken : Type 0 where
  pub room : ℕ
  pub at : RowsOf ℕ

-- the places of calls are stored as the pair of these two
abbrev pub taken_code : Coded Taken
taken_code =
    code_by (ℕ × RowsOf ℕ) (coded× coded_ℕ (code (call_id.the_row.coded) coded_ℕ)) (λ t. (t.room, t.at)) (λ c. record { room = c.0; at = c.1 }) (λ _. refl)

-- the map of an index whose calls rise
unfoldable pub map_of : List (CallId × ℕ) → RowsOf ℕ
map_of index = checked index _ refl empty

-- each place is one of so many, and no two calls have one place
pub record ArePlaces (room : ℕ) (at : RowsOf ℕ) : Type 0 where
  pub within : (q : CallId) (n : ℕ) → get at q ≡ Some n → n < room
  pub apart : (p q : CallId) (n : ℕ) → get at p ≡ Some n → get at q ≡ Some n → p ≡ q

-- no call has this place
abbrev pub IsFreePlace : RowsOf ℕ → ℕ → Type 0
IsFreePlace at place = (q : CallId) → get at q ≡ Some place → ⊥

-- the calls of the index rise, and its places and the free ones are the first so many places, each once
pub record AreKept (used : ℕ) (index : List (CallId × ℕ)) (free : List ℕ) : Type 0 where
  pub rising : T (rises call_cmp index)
  pub all : IsPermutation (range_with_len 0 used) (values (map_of index) ++ free)
