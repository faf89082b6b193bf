-- Lists of bytes in which missing ones are filled in from a piece.
use Rattle.std.specs.Prelude.{◌≡◌, ◌⊎◌, ℕ, ◌-◌, ◌<◌, ◌≤◌, true, false, List, length, slice_index}
use Rattle.plain_sets.specs.Numbers.{Numbers, has}

-- the bytes from number `offset` to `end` - 1 that were missing are now the piece's, which begins at `offset`;
-- all others are as before
pub record IsFilled (missing : Numbers) (offset end : ℕ) (piece old new : List ℕ) : Type 0 where
  pub length : length new ≡ length old
  pub filled : (q : ℕ) → offset ≤ q → q < end → has missing q ≡ true → slice_index new q ≡ slice_index piece (q - offset)
  pub kept : (q : ℕ) → has missing q ≡ false → slice_index new q ≡ slice_index old q
  pub around : (q : ℕ) → (q < offset) ⊎ (end ≤ q) → slice_index new q ≡ slice_index old q
