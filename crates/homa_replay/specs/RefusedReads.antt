-- What is read where a line of a schedule is refused.
use Rattle.std.specs.Prelude.{◌≡◌, ℕ, ◌≤◌, Option, Some, List, ◌++◌, length}
use Rattle.std.specs.List.{flat_map}
use Rattle.homa_io.specs.Outside.{appended}
use Rattle.homa_plain.specs.declared.fault.LineFault.{LineFault}
use Rattle.homa_plain.specs.Entries.{PlainEntry, PlainRefused}
use Rattle.homa_plain.specs.Input.{lines_of}
use Rattle.homa_plain.specs.Text.{line_text}
use Rattle.script_lines.specs.Place.{Place}
use Rattle.script_lines.specs.Taking.{TakesLines}

-- The last line that was printed refuses the last line that the reader took, behind which at most 65,536 bytes were read.
pub record RefusesLast (old new : Place) (left left_then taken taken_then : Option (List ℕ)) : Type 0 where
  pub told : List PlainEntry
  pub fault : LineFault
  pub printed : taken_then ≡ appended taken (flat_map line_text told ++ line_text (PlainRefused new.number fault))
  pub took : TakesLines old new left left_then
  pub ahead : length new.pending ≤ 65536

-- The last line that was printed refuses this line of the schedule. The bytes that were read stand in the lines up to it, but for at most
-- 65,536 behind it.
pub record IsReadUpTo (bytes : List ℕ) (left old new : Option (List ℕ)) : Type 0 where
  pub told : List PlainEntry
  pub line : ℕ
  pub fault : LineFault
  pub printed : new ≡ appended old (flat_map line_text told ++ line_text (PlainRefused line fault))
  pub lines : List ℕ
  pub ahead : List ℕ
  pub rest : List ℕ
  pub split : bytes ≡ (lines ++ ahead) ++ rest
  pub has_left : left ≡ Some rest
  pub within : length (lines_of lines) ≤ line
  pub part : length ahead ≤ 65536
