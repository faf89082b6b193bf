use Rattle.std.proofs.Common.{◌≡◌, true, false}
use Rattle.host_rows.proofs.play_all.Given as goal

-- the reader goes on
abbrev pub invariant-lines : goal.invariant-lines
invariant-lines g l = (l.reader.started ≡ true) × (l.reader.ended ≡ false)
