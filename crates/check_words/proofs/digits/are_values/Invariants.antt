use Rattle.std.proofs.Common.{◌≡◌, take}
use Rattle.std.specs.List.{list_all}
use Rattle.check_words.specs.Digits.{is_value}
use Rattle.check_words.proofs.digits.are_values.Given as goal

-- the greatest number so far
abbrev pub invariant-loop-i : goal.invariant-loop-i
invariant-loop-i l = is_value l.greatest ≡ list_all is_value (take l.i l.values)
