use Rattle.std.proofs.Common.{◌≡◌, ◌&&◌, take}
use Rattle.std.specs.List.{list_all}
use Rattle.check_words.specs.Digits.{is_value}
use Rattle.check_words.proofs.digits.raise.Given as goal

-- the numbers so far are raised
abbrev pub invariant-loop-i : goal.invariant-loop-i
invariant-loop-i l = list_all is_value l.most ≡ (list_all is_value l.fn.most && list_all is_value (take l.i l.values))
