use Rattle.std.proofs.Common.{◌≡◌, take}
use Rattle.homa_plain.specs.Script.{counting}
use Rattle.text_lines.proofs.bytes.count.Given as goal

-- the bytes so far count
abbrev pub invariant-loop-i : goal.invariant-loop-i
invariant-loop-i l = take l.i l.out ≡ counting 0 l.i
