-- The frontier of places that may come next. No public contract cites this.
use Rattle.std.specs.Prelude.{◌≡◌, ℕ, ◌<◌, false, List, [], ◌∷◌, ◌++◌, length, nat_lt, if◌then◌else◌, slice_index_or}
use Rattle.place_heap.specs.declared.front.Candidate.{Candidate}
use Rattle.place_heap.specs.Order.{Item, is_before}
use Rattle.place_heap.specs.Held.{at}

-- the candidate at an index
abbrev pub candidate : List Candidate → ℕ → Candidate
candidate front i = slice_index_or front i (record { place = 0; item = (0, record { first = 0; second = 0 }) })

-- no other candidate's item stands before that at the index
pub record IsLeast (front : List Candidate) (best : ℕ) : Type 0 where
  pub inside : best < length front
  pub least : (i : ℕ) → i < length front → is_before (candidate front i).item (candidate front best).item ≡ false

-- the frontier with a place, if an item lies there
abbrev pub with_child : List Item → ℕ → ℕ → List Candidate → List Candidate
with_child items len place front = if nat_lt place len then front ++ record { place = place; item = at items place } ∷ [] else front
