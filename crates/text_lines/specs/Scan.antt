-- What a scan for the next line feed found.
use Rattle.std.specs.Prelude.{◌≡◌, ℕ, ◌+◌, ◌≤◌, ◌⊎◌, true, List, [], ◌∷◌, ◌++◌, length, take}
use Rattle.homa_io.specs.Outside.{IsAtEnd}
use Rattle.homa_plain.specs.Input.{has_no_feed}
use Rattle.text_lines.specs.Rest.{Rest, Takes}
use Rattle.text_lines.specs.declared.scan.Found.{Found}
use Rattle.text_lines.specs.declared.scan.Found.TheVariants.{Line, Over}

-- n bytes without a line feed were taken, and then `last`; `line` has as many of the n as there is room for
pub record IsInLine (old new : Rest) (room : ℕ) (line : List ℕ) (n : ℕ) (last : List ℕ) : Type 0 where
  pub bytes : List ℕ
  pub taken : Takes old new (bytes ++ last)
  pub one_line : has_no_feed bytes ≡ true
  pub count : length bytes ≡ n
  pub kept : line ≡ take room bytes

-- the input ended
pub record IsEnded (rest : Rest) : Type 0 where
  pub none_pending : rest.pending ≡ []
  pub none_left : IsAtEnd rest.left

-- n bytes stand in a line before its line feed or the end of the input, and `size` with the line feed
pub record IsWhole (old new : Rest) (room : ℕ) (line : List ℕ) (n size : ℕ) : Type 0 where
  pub last : List ℕ
  pub in_line : IsInLine old new room line n last
  pub ended : (last ≡ 10 ∷ []) ⊎ ((last ≡ []) × IsEnded new)
  pub total : n + length last ≡ size

-- what a scan over at most `most` bytes found
abbrev pub IsScan : Rest → Rest → ℕ → List ℕ → ℕ → Found → Type 0
IsScan old new room line most (Line n size) = IsWhole old new room line n size × (size ≤ most)
IsScan old new room line most Over = (b : ℕ) × IsInLine old new room line most (b ∷ [])
