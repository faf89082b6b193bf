use Rattle.std.proofs.Common.{◌≡◌, ◌*◌, ◌++◌, take, drop}
use Rattle.check_words.specs.Digits.{joined}
use Rattle.check_words.proofs.digits.join_pairs.Given as goal

-- the bytes so far, and those of the other pairs
abbrev pub invariant-loop-i : goal.invariant-loop-i
invariant-loop-i l = take l.i l.out ++ joined (drop (2 * l.i) l.values) ≡ joined l.values
