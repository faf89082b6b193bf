use Rattle.std.proofs.Common.{◌≡◌, reverse, take}
use Rattle.homa_service.proofs.suite.reverse_into.Given as goal

-- the first bytes of the others' order
abbrev pub invariant-loop-i : goal.invariant-loop-i
invariant-loop-i l = take l.i l.out ≡ take l.i (reverse l.bytes)
