-- Which lines a reader took, and when it read.
use Rattle.std.specs.Prelude.{◌≡◌, ◌⊎◌, ℕ, ◌+◌, ◌<◌, ◌≤◌, ◌==◌, suc, Bool, false, if◌then◌else◌, Option, List, [], ◌∷◌, length}
use Rattle.homa_plain.specs.Input.{lines_of}
use Rattle.text_lines.specs.Lines.{Reading}
use Rattle.text_lines.specs.Rest.{Takes}
use Rattle.script_lines.specs.Place.{Place, place_of}

-- how many line feeds stand in it
abbrev pub feeds : List ℕ → ℕ
feeds [] = 0
feeds (b ∷ bytes) = if b == 10 then suc (feeds bytes) else feeds bytes

-- A reader took lines, no more than it counts, off what was pending and what came; the others are pending. Bytes came only where it took
-- each whole line that was pending, and needed one more.
pub record TakesLines (old new : Place) (left left_then : Option (List ℕ)) : Type 0 where
  pub taken : List ℕ
  pub takes : Takes (record { pending = old.pending; left = left }) (record { pending = new.pending; left = left_then }) taken
  pub lines : old.number + length (lines_of taken) ≤ new.number
  pub needed : (left_then ≡ left) ⊎ (old.number + feeds old.pending < new.number)

-- It took lines, unless a read failed. At most 65,536 bytes are pending, and it has the same bounds as before.
pub record GoesOn (old new : Reading) (left left_then : Option (List ℕ)) (failed : Bool) : Type 0 where
  pub took : failed ≡ false → TakesLines (place_of old) (place_of new) left left_then
  pub ahead : length new.pending ≤ 65536
  pub limit : new.limit ≡ old.limit
  pub longest : new.longest ≡ old.longest
