-- Pages of 4096 bytes in one block, and chains of them by a table of next pages.
use Rattle.std.specs.Prelude.{◌≡◌, ℕ, zero, suc, ◌+◌, ◌*◌, ◌/◌, ◌%◌, ◌<◌, List, [], ◌∷◌, length, slice_index}

-- the fewest pages that have room for so many bytes
abbrev pub pages_for : ℕ → ℕ
pages_for bytes = (bytes + 4095) / 4096

-- a byte of a page
abbrev pub byte_at : List ℕ → ℕ → ℕ → ℕ
byte_at block page place = slice_index block (page * 4096 + place)

-- the page that is so many steps after the first one of a chain
abbrev pub page_at : List ℕ → ℕ → ℕ → ℕ
page_at next first zero = first
page_at next first (suc steps) = slice_index next (page_at next first steps)

-- so many pages of a chain are pages of the table
abbrev pub IsChain : List ℕ → ℕ → ℕ → Type 0
IsChain next first count = (i : ℕ) → i < count → page_at next first i < length next

-- no page stands twice among so many of a chain
abbrev pub HasNoRepeat : List ℕ → ℕ → ℕ → Type 0
HasNoRepeat next first count = (i j : ℕ) → i < count → j < count → page_at next first i ≡ page_at next first j → i ≡ j

-- the values of a function from a number on
abbrev pub values_from : (ℕ → ℕ) → ℕ → ℕ → List ℕ
values_from f at zero = []
values_from f at (suc count) = f at ∷ values_from f (suc at) count

-- so many bytes of a chain of pages
unfoldable pub chain_bytes : (block next : List ℕ) → (first count : ℕ) → List ℕ
chain_bytes block next first count = values_from (λ k. byte_at block (page_at next first (k / 4096)) (k % 4096)) 0 count
