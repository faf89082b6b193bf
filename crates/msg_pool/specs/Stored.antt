-- A block of pages of which the first ones are stored. Of a stored page so many bytes count, up to its end. All others are zero.
use Rattle.std.specs.Prelude.{◌≡◌, ℕ, ◌*◌, ◌/◌, ◌%◌, ◌≤◌, nat_lt, if◌then◌else◌, List, length, slice_index}
use Rattle.msg_pool.specs.Pages.{values_from}

-- a byte of the block: a stored one below the end of its page, and else zero
abbrev pub byte_of : (stored ends : List ℕ) → ℕ → ℕ
byte_of stored ends i = if nat_lt (i % 4096) (slice_index ends (i / 4096)) then slice_index stored i else 0

-- so many bytes of the block
unfoldable pub bytes_in : (stored ends : List ℕ) → ℕ → List ℕ
bytes_in stored ends len = values_from (byte_of stored ends) 0 len

-- each stored page has an end, there are no more of them than pages, and there is room for all
pub record AreStored (stored ends : List ℕ) (capacity capacity_of_ends pages : ℕ) : Type 0 where
  pub whole : length stored ≡ length ends * 4096
  pub within : length ends ≤ pages
  pub room : pages * 4096 ≤ capacity
  pub room_of_ends : pages ≤ capacity_of_ends
